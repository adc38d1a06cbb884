-- Tables that are lent on.
use Rattle.std.specs.Prelude.{◌≡◌, length}
use Rattle.readback.specs.declared.tables.LentTables.{LentTables}

-- they are the same tables, and as long as before
pub record SameLent (old new : LentTables) : Type 0 where
  pub titles : new.titles.ghost_name ≡ old.titles.ghost_name
  pub numbers : new.numbers.ghost_name ≡ old.numbers.ghost_name
  pub ytd : new.ytd.ghost_name ≡ old.ytd.ghost_name
  pub many : length new.titles.now ≡ length old.titles.now
  pub wide : length new.numbers.now ≡ length old.numbers.now
  pub years : length new.ytd.now ≡ length old.ytd.now
