-- What is read by a plan.
use Rattle.std.specs.Prelude.{◌≡◌, All, Bool, true, false, List, ◌++◌, ℕ, ◌+◌, ◌-◌, ◌<◌, ◌≤◌, length, take, drop, replicate}
use Rattle.std.proofs.lemmas.List.Edits.{sets}
use Rattle.standard.specs.Bits.{bits}
use Rattle.standard.specs.Factors.{Source, plan_of, sources_of, plan_bits, factors_from}
use Rattle.standard.specs.declared.Setting.{Setting}
use Rattle.standard.specs.declared.SlotRecord.{SlotRecord}
use Rattle.standard.specs.declared.Group.{Group}
use Rattle.standard.specs.declared.Plan.{Plan}

-- the factors of a slot whose bits start at a place of s, granule 0's being `old`
abbrev pub factors_at : Setting → SlotRecord → List ℕ → List ℕ → ℕ → List ℕ
factors_at g r old s at = factors_from (sources_of (plan_of g r)) old (bits s at (plan_bits (sources_of (plan_of g r))))

-- granule 0's factors, for a slot that may share them
abbrev pub old_for : Bool → List ℕ → List ℕ
old_for true old = old
old_for false old = replicate 22 0

-- ---- what helpers promise and ask
-- fs after the factors of a plan, read from a bit place of s on, are written from its i-th place on
unfoldable pub filled : List ℕ → ℕ → List Source → List ℕ → List ℕ → ℕ → List ℕ
filled fs i ps old s at = sets fs i (factors_from ps (drop i old) (bits s at (plan_bits ps)))

-- c factors from the n-th on, at the places from `from` on of 39 that are zeros else
abbrev pub placed : List ℕ → ℕ → ℕ → ℕ → List ℕ
placed fs n c from = replicate from 0 ++ take c (drop n fs) ++ replicate (39 - (from + c)) 0

-- a group that can be read: its factors are few and of few bits, and granule 0 has what it shares
pub record Readable (g : Group) (first at : ℕ) : Type 0 where
  pub narrow : g.length ≤ 5
  pub few : first + g.count ≤ 36
  pub mate : g.shared ≡ true → first + g.count ≤ 22
  pub near : at < 8589934592

-- so for a plan
pub record Fit (p : Plan) (at : ℕ) : Type 0 where
  pub narrow : All (λ (g : Group). g.length ≤ 5) p.groups
  pub few : length (sources_of p) ≤ 36
  pub mate : All (λ (g : Group). g.shared ≡ true → length (sources_of p) ≤ 22) p.groups
  pub near : at < 4294967296
