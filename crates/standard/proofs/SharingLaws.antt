-- Where nothing is shared, granule 0's factors do not matter: of a short block never, of any block where no sharing bit is in force. So a slot
-- depends on its own bits and, only where it shares, on its channel's granule 0 slot.
use Rattle.std.specs.Prelude.{◌≡◌, refl, Bool, false, ◌&&◌, List, [], ◌∷◌, ℕ, zero, suc, ltb, get_or, drop}
use Rattle.std.proofs.Common.{sym, ap, ◌∙◌}
use Rattle.standard.specs.Told.{pick}
use Rattle.standard.specs.ToldLaws.{neither_of}
use Rattle.standard.specs.Record.{shape_of}
use Rattle.standard.specs.Factors.{plan_of, sources_of, plan_bits}
use Rattle.standard.proofs.FactorsLaws.{unshared_plan}
use Rattle.standard.specs.Codes.{word_of}
use Rattle.standard.specs.Numbers.{numbers_of}
use Rattle.standard.specs.Slots.{stopped, any_of, with_factors, slot_by, slot_of}
use Rattle.standard.specs.declared.Setting.{Setting}
use Rattle.standard.specs.declared.SlotRecord.{SlotRecord}
use Rattle.standard.specs.declared.Refusal.TheVariants.{FactorOverrun, LostShare}

none-set : (shares : List Bool) → any_of shares ≡ false → (k : ℕ) → get_or shares k false ≡ false
unfolding any_of
none-set [] e k = refl
none-set (x ∷ xs) e zero = (neither_of x (any_of xs) e).0
none-set (x ∷ xs) e (suc k) = none-set xs (neither_of x (any_of xs) e).1 k

-- no slot looks at granule 0 without a sharing bit in force
pub own_alone : (g : Setting) (r : SlotRecord) (lost miss : Bool) (old other : List ℕ) (b : List Bool) → any_of g.shares ≡ false
    → slot_of g r lost old b ≡ slot_of g r miss other b
unfolding slot_of slot_by
own_alone g r lost miss old other b e =
    let plan = sources_of (plan_of g r) in
    let fs = unshared_plan g r (none-set g.shares e) old other b in
    let l = ap (λ (x : Bool). x && lost) e ∙ sym (ap (λ (x : Bool). x && miss) e) in
    λ j.
    pick (ltb r.part2_3_length (plan_bits plan)) (stopped FactorOverrun)
    (pick (l j) (stopped LostShare) (with_factors g.mpeg1 (shape_of r) (fs j) (numbers_of word_of g.rate r (drop (plan_bits plan) b))))
