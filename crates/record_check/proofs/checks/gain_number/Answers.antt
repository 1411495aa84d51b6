-- `record_check::checks::gain_number` meets its contract: a float is known by its pattern, and the eight patterns are the eight gains'.
-- Assumes nothing.
use mathlib.Core.Path.{◌≡◌, refl, sym, ap, ◌∙◌}
use Prim.Native.Nat.{ℕ, ◌*◌, ◌/◌, ◌%◌}
use native.Mathlib.Omega.{arith}
use borrow.Author.Rules.{rules}
use lib.Ieee.{binary32, to_bits}
use denote.Floats.{passes}
use Rattle.record_check.proofs.Gains.{gain_at, gain_nan, gain_none}
use Rattle.record_check.proofs.checks.gain_number.Goals as goal

-- a pattern whose last 21 bits are 0, by those before
pattern : (p k : ℕ) → p % 2097152 ≡ 0 → p / 2097152 ≡ k → p ≡ 2097152 * k
pattern p k h e = omega arith

pub returns-then-is_nan : goal.returns-then-is_nan
returns-then-is_nan c = gain_nan _ (sym c.is_nan.ensures.value ∙ c.if-is_nan.true)

pub returns-then-p-eq0 : goal.returns-then-p-eq0
returns-then-p-eq0 c = gain_at _ 0 refl (passes _ c.well_formed.0.1) c.if-p-eq0.true

pub returns-then-p-ne0 : goal.returns-then-p-ne0
returns-then-p-ne0 c =
    let g = c.args.g in
    let off : (n : ℕ) → n % 2097152 ≡ 0 → to_bits binary32 g ≡ n → ⊥ = λ n z e. c.if-p-ne0.true (ap (λ (p : ℕ). p % 2097152) e ∙ z) in
    gain_none g (off 0 refl) (off 0x3f80_0000 refl) (off 0x4000_0000 refl) (off 0x4040_0000 refl) (off 0x4080_0000 refl) (off 0x40a0_0000 refl)
    (off 0x40c0_0000 refl) (off 0x40e0_0000 refl)

pub returns-in-508 : goal.returns-in-508
returns-in-508 c = gain_at _ 1 refl (passes _ c.well_formed.0.1) (pattern _ _ c.if-p-ne0.false c.in-508.is)

pub returns-in-512 : goal.returns-in-512
returns-in-512 c = gain_at _ 2 refl (passes _ c.well_formed.0.1) (pattern _ _ c.if-p-ne0.false c.in-512.is)

pub returns-in-514 : goal.returns-in-514
returns-in-514 c = gain_at _ 3 refl (passes _ c.well_formed.0.1) (pattern _ _ c.if-p-ne0.false c.in-514.is)

pub returns-in-516 : goal.returns-in-516
returns-in-516 c = gain_at _ 4 refl (passes _ c.well_formed.0.1) (pattern _ _ c.if-p-ne0.false c.in-516.is)

pub returns-in-517 : goal.returns-in-517
returns-in-517 c = gain_at _ 5 refl (passes _ c.well_formed.0.1) (pattern _ _ c.if-p-ne0.false c.in-517.is)

pub returns-in-518 : goal.returns-in-518
returns-in-518 c = gain_at _ 6 refl (passes _ c.well_formed.0.1) (pattern _ _ c.if-p-ne0.false c.in-518.is)

pub returns-in-519 : goal.returns-in-519
returns-in-519 c = gain_at _ 7 refl (passes _ c.well_formed.0.1) (pattern _ _ c.if-p-ne0.false c.in-519.is)

pub returns-in_default : goal.returns-in_default
returns-in_default c =
    let g = c.args.g in
    let off : (k : ℕ) → (to_bits binary32 g / 2097152 ≡ k → ⊥) → to_bits binary32 g ≡ 2097152 * k → ⊥ = λ k h e. h (omega arith) in
    gain_none g c.if-p-eq0.false (off 0x1fc (search rules)) (off 0x200 (search rules)) (off 0x202 (search rules)) (off 0x204 (search rules))
    (off 0x205 (search rules)) (off 0x206 (search rules)) (off 0x207 (search rules))
