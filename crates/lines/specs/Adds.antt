-- A text in lent bytes, and what is put behind it.
use Rattle.std.specs.Prelude.{◌≡◌, List, ℕ}
use Rattle.lent_bytes.specs.Put.{Put}
use Rattle.lines.specs.declared.Text.{Text}

-- t was put at the place of the old text; the lent memory is the same
pub record Adds (old : Text) (t : List ℕ) (new : Text) : Type 0 where
  pub lent : new.bytes.ghost_name ≡ old.bytes.ghost_name
  pub put : Put old.bytes.now old.at t new.at new.bytes.now
