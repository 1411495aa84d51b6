-- Laws of what is put behind a text: two lists put one after the other are their join put at once.
use Rattle.std.specs.Prelude.{◌≡◌, List, [], ◌++◌, ℕ, refl}
use Rattle.std.proofs.Common.{◌∙◌}
use Rattle.lent_bytes.specs.PutLaws.{put_same, put_none, put_then}
use Rattle.lines.specs.declared.Text.{Text}
use Rattle.lines.specs.Adds.{Adds}

pub adds_same : {a b : Text} {t u : List ℕ} → t ≡ u → Adds a t b → Adds a u b
adds_same e p = record { lent = p.lent; put = put_same e p.put }

pub adds_none : (a : Text) → Adds a [] a
adds_none a = record { lent = refl; put = put_none a.bytes.now a.at }

pub adds_then : {a b c : Text} {t u : List ℕ} → Adds a t b → Adds b u c → Adds a (t ++ u) c
adds_then p q = record { lent = q.lent ∙ p.lent; put = put_then p.put q.put }
