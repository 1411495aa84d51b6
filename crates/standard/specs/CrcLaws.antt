-- A step of the register is one to one, and bits that differ lead apart: so one flipped bit changes the check word, whatever comes after it.
use Rattle.std.specs.Prelude.{◌≡◌, refl, Bool, true, false, not, List, [], ◌∷◌, ◌++◌, ℕ, zero, suc, ◌<◌, length, get_or, take, replicate}
use Rattle.std.proofs.Common.{sym, ap, ◌∙◌, add-one, arith, length-append}
use Rattle.standard.specs.ToldLaws.{never}
use Rattle.standard.specs.Crc.{differ, added, taps, feed, fed, check_word}

-- ---- what is added twice is gone
pub differ_back : (x y : Bool) → differ (differ x y) y ≡ x
unfolding differ
differ_back x false = refl
differ_back true true = refl
differ_back false true = refl

added-back : (p q : List Bool) → added (added p q) q ≡ p
unfolding added
added-back [] q = refl
added-back (x ∷ p) [] = refl
added-back (x ∷ p) (y ∷ q) = λ j. differ_back x y j ∷ added-back p q j

added-length : (p q : List Bool) → length (added p q) ≡ length p
unfolding added
added-length [] q = refl
added-length (x ∷ p) [] = refl
added-length (x ∷ p) (y ∷ q) = ap suc (added-length p q)

added-at : (p q : List Bool) (i : ℕ) → i < length p → i < length q → get_or (added p q) i false ≡ differ (get_or p i false) (get_or q i false)
unfolding added
added-at [] q i h k = absurd (omega arith)
added-at (x ∷ p) [] i h k = absurd (omega arith)
added-at (x ∷ p) (y ∷ q) zero h k = refl
added-at (x ∷ p) (y ∷ q) (suc i) h k = added-at p q i (omega arith) (omega arith)

-- ---- a register of sixteen bits, by its first and the others
last_in : (r : List Bool) → get_or (r ++ false ∷ []) (length r) false ≡ false
last_in [] = refl
last_in (x ∷ r) = last_in r

first-in : (r : List Bool) → take (length r) (r ++ false ∷ []) ≡ r
first-in [] = refl
first-in (x ∷ r) = ap (λ (l : List Bool). x ∷ l) (first-in r)

moved_length : (r : List Bool) → length (r ++ false ∷ []) ≡ suc (length r)
moved_length r = length-append r (false ∷ []) ∙ add-one (length r)

-- what comes out stands last after the step, and tells the others
moved-last : (out : Bool) (r : List Bool) → length r ≡ 15 → get_or (added (r ++ false ∷ []) (taps out)) 15 false ≡ out
unfolding taps differ
moved-last out r h =
    added-at (r ++ false ∷ []) (taps out) 15 (omega (arith, moved_length r)) (omega arith)
    ∙ (λ j. differ (get_or (r ++ false ∷ []) (sym h j) false) out) ∙ ap (λ (x : Bool). differ x out) (last_in r) ∙ from_none out
  where
    from_none : (x : Bool) → differ false x ≡ x
    from_none true = refl
    from_none false = refl

moved_back : (out : Bool) (r : List Bool) → length r ≡ 15 → take 15 (added (added (r ++ false ∷ []) (taps out)) (taps out)) ≡ r
moved_back out r h = ap (take 15) (added-back (r ++ false ∷ []) (taps out)) ∙ (λ j. take (sym h j) (r ++ false ∷ [])) ∙ first-in r

pub feed-long : (r : List Bool) (b : Bool) → length r ≡ 16 → length (feed r b) ≡ 16
unfolding feed
feed-long [] b h = h
feed-long (x ∷ r) b h = added-length (r ++ false ∷ []) (taps (differ x b)) ∙ moved_length r ∙ h

-- ---- one to one
pub feed-one : (r q : List Bool) (b : Bool) → length r ≡ 16 → length q ≡ 16 → feed r b ≡ feed q b → r ≡ q
unfolding feed
feed-one [] q b h k e = absurd (omega arith)
feed-one (x ∷ r) [] b h k e = absurd (omega arith)
feed-one (x ∷ r) (y ∷ q) b h k e =
    let m : length r ≡ 15 = omega arith in
    let n : length q ≡ 15 = omega arith in
    let out : differ x b ≡ differ y b = sym (moved-last (differ x b) r m) ∙ ap (λ (l : List Bool). get_or l 15 false) e ∙ moved-last (differ y b) q n in
    let first : x ≡ y = sym (differ_back x b) ∙ ap (λ (o : Bool). differ o b) out ∙ differ_back y b in
    let rest : r ≡ q = sym (moved_back (differ x b) r m) ∙ (λ j. take 15 (added (e j) (taps (out j)))) ∙ moved_back (differ y b) q n in
    λ j. first j ∷ rest j

-- bits that differ lead apart
pub feed-apart : (r : List Bool) (b : Bool) → length r ≡ 16 → feed r (not b) ≡ feed r b → ⊥
unfolding feed differ
feed-apart [] b h e = absurd (omega arith)
feed-apart (x ∷ r) b h e =
    let m : length r ≡ 15 = omega arith in
    unlike_bits x b (sym (moved-last (differ x (not b)) r m) ∙ ap (λ (l : List Bool). get_or l 15 false) e ∙ moved-last (differ x b) r m)
  where
    unlike_bits : (x b : Bool) → differ x (not b) ≡ differ x b → ⊥
    unlike_bits true true e = never (sym e)
    unlike_bits true false e = never e
    unlike_bits false true e = never e
    unlike_bits false false e = never (sym e)

-- ---- many
pub fed-long : (r bs : List Bool) → length r ≡ 16 → length (fed r bs) ≡ 16
unfolding fed
fed-long r [] h = h
fed-long r (b ∷ bs) h = fed-long (feed r b) bs (feed-long r b h)

pub fed-append : (r p q : List Bool) → fed r (p ++ q) ≡ fed (fed r p) q
unfolding fed
fed-append r [] q = refl
fed-append r (b ∷ p) q = fed-append (feed r b) p q

fed-one : (r q bs : List Bool) → length r ≡ 16 → length q ≡ 16 → fed r bs ≡ fed q bs → r ≡ q
unfolding fed
fed-one r q [] h k e = e
fed-one r q (b ∷ bs) h k e = feed-one r q b h k (fed-one (feed r b) (feed q b) bs (feed-long r b h) (feed-long q b k) e)

flip_from : (r p s : List Bool) (b : Bool) → length r ≡ 16 → fed r (p ++ not b ∷ s) ≡ fed r (p ++ b ∷ s) → ⊥
unfolding fed
flip_from r [] s b h e = feed-apart r b h (fed-one (feed r (not b)) (feed r b) s (feed-long r (not b) h) (feed-long r b h) e)
flip_from r (x ∷ p) s b h e = flip_from (feed r x) p s b (feed-long r x h) e

-- a flipped bit changes the check word, whatever stands before and after it
pub flipped : (p s : List Bool) (b : Bool) → check_word (p ++ not b ∷ s) ≡ check_word (p ++ b ∷ s) → ⊥
unfolding check_word
flipped p s b e = flip_from (replicate 16 true) p s b refl e
