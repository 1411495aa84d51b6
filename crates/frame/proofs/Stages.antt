-- What a frame's accepted header and side information say of its sizes: its main data fits the reservoir's memory.
use Rattle.std.proofs.lemmas.Result.{err_from_is_err_and}
use Rattle.standard.specs.ToldLaws.{clash}
use Rattle.std.specs.Prelude.{Result, Ok, Err, MatchResult, IsErrAnd, Ok}
use mathlib.Core.Path.{◌≡◌, refl, sym, ap, ◌∙◌, subst}
use mathlib.Core.Bool.{true}
use mathlib.Core.List.{List}
use Prim.Native.Nat.{ℕ, ◌+◌, ◌-◌, ◌≤◌}
use native.Mathlib.Omega.{arith}
use lib.IntN.{ℤ}
use lib.ListN.{length, take, drop, length-drop}
use lib.Seq.{length-take-le}
use Rattle.standard.specs.Sizes.{reservoir_bytes}
use Rattle.standard.specs.ToldLaws.{picked}
use Rattle.standard.specs.Written.{Bytes}
use Rattle.standard.specs.Header.{is_header, header_of, header_size, side_size, main_size, frame_length}
use Rattle.standard.proofs.HeaderLaws.{main_and_side, reservoir-le}
use Rattle.standard.proofs.HeaderBytes.{header-known}
use Rattle.standard.specs.SideInfo.{side_under, side_of, is_side}
use Rattle.standard.specs.Reservoir.{turn_of, turn_in, Turned}
use Rattle.standard.proofs.ReservoirLaws.{fitting}
use Rattle.standard.specs.Frame.{with_turn, frame_of, FrameRead}
use Rattle.standard.proofs.FrameLaws.{frame-turn}
use Rattle.standard.specs.declared.FrameHeader.{FrameHeader}
use Rattle.standard.specs.declared.SideInfo.{SideInfo}
use Rattle.standard.specs.declared.Reservoir.{Reservoir}
use Rattle.standard.specs.Told.{Verdict}
use Rattle.standard.specs.declared.Frame.{Frame}
use Rattle.standard.specs.declared.FrameRefusal.{FrameRefusal}

-- under a header that the frame's bytes read to, its parts are what is asked
pub side_read : (h : FrameHeader) (s : List ℕ) → Bytes s → header_of s ≡ Ok h → side_of h s ≡ side_under h s
unfolding side_of
side_read h s b e = picked _ (header-known s h b e)

pub parts : (h : FrameHeader) → is_header h ≡ true → header_size h + side_size h + main_size h ≡ frame_length h
unfolding frame_length
parts h k = omega (arith, main_and_side h k)

-- cut out of the frame by these sizes it has its length
pub main_length : (h : FrameHeader) (s : List ℕ) {a b m : ℕ} → is_header h ≡ true → frame_length h ≤ length s → a ≡ header_size h → b ≡ side_size h → m ≡ main_size h
    → length (take (a + b + m - (a + b)) (drop (a + b) s)) ≡ main_size h
main_length h s {a} {b} {m} k l p q e =
    length-take-le (a + b + m - (a + b)) (drop (a + b) s) (simp length-drop (omega (arith, l, p, q, e, parts h k))) ∙ omega (arith, e)

-- so its turn is never refused for the memory
pub fits_turn : (h : FrameHeader) (i : SideInfo) (main : List ℕ) {lent left : List ℕ} {old new : Reservoir} {v : Verdict} → reservoir_bytes ≤ length lent
    → old.length ≤ reservoir_bytes
    → is_header h ≡ true → is_side h i ≡ true → length main ≡ main_size h → Turned lent old (turn_in lent old.length i.main_data_begin main) v new left
    → Turned lent old (Ok (turn_of i.main_data_begin (take old.length lent) main)) v new left
fits_turn h i main {lent} {left} {old} {new} {v} l s k f m t =
    subst (λ x. Turned lent old x v new left) (fitting lent old.length i.main_data_begin main l s (omega (arith, m, reservoir-le h i k f))) t

-- a frame whose bytes are all there is its main data's turn
pub whole-frame : {lent left : List ℕ} {old new : Reservoir} {d nums : List ℤ} {r : Result Frame FrameRefusal} {a b m : ℕ} (s : List ℕ) (h : FrameHeader) (i : SideInfo)
    → header_of s ≡ Ok h → side_of h s ≡ Ok i → frame_length h ≤ length s → a ≡ header_size h → b ≡ side_size h → m ≡ main_size h
    → FrameRead lent old d (with_turn h i (turn_of i.main_data_begin (take old.length lent) (take (a + b + m - (a + b)) (drop (a + b) s)))) r new left nums
    → FrameRead lent old d (frame_of s (take old.length lent)) r new left nums
whole-frame {lent} {left} {old} {new} {d} {nums} {r} {a} {b} {m} s h i e f l p q u t =
    let n : a + b + m - (a + b) ≡ main_size h = omega (arith, u) in
    let same : with_turn h i (turn_of i.main_data_begin (take old.length lent) (take (a + b + m - (a + b)) (drop (a + b) s)))
    ≡ frame_of s (take old.length lent) =
    (λ j. with_turn h i (turn_of i.main_data_begin (take old.length lent) (take (n j) (drop (p j + q j) s))))
    ∙ sym (frame-turn s (take old.length lent) e f l) in
    subst (λ x. FrameRead lent old d x r new left nums) same t

-- ---- a reading whose refusal is passed on in other words
pub passed_ok : {A E F : Type 0} (P : E → F → Type 0) (t : Result A E) {r : Result A F} {x : A}
    → MatchResult t (λ y. r ≡ Ok y) (λ e. IsErrAnd r (P e)) → r ≡ Ok x → t ≡ Ok x
passed_ok {A} {F = F} P (Ok y) {r} {x} m e =
    let both : ◌≡◌ {A = Result A F} (Ok y) (Ok x) = sym m ∙ e in
    let same : y ≡ x = cc in
    ap Ok same
passed_ok {A} {F = F} P (Err q) {r} {x} m e =
    let p = err_from_is_err_and r m in
    let both : ◌≡◌ {A = Result A F} (Err p.0) (Ok x) = sym p.1 ∙ e in
    clash cc

pub passed_err : {A E F : Type 0} (P : E → F → Type 0) (t : Result A E) {r : Result A F} {q : F}
    → MatchResult t (λ y. r ≡ Ok y) (λ e. IsErrAnd r (P e)) → r ≡ Err q → (e : E) × (t ≡ Err e) × P e q
passed_err {A} {F = F} P (Ok y) {r} {q} m e =
    let both : ◌≡◌ {A = Result A F} (Ok y) (Err q) = sym m ∙ e in
    clash cc
passed_err {A} {F = F} P (Err x) {r} {q} m e =
    let p = err_from_is_err_and r m in
    let same : ◌≡◌ {A = Result A F} (Err p.0) (Err q) = sym p.1 ∙ e in
    let is : p.0 ≡ q = cc in
    (x, refl, subst (P x) is p.2)
