-- Where a reader of factors stands: what is written, with what is left of the plan, is the whole answer. A part of the plan, were it one
-- source or one group, is read by one law.
use mathlib.Core.Path.{◌≡◌, refl, sym, ap, ◌∙◌, subst}
use mathlib.Core.List.{List, [], ◌∷◌, ◌++◌}
use Prim.Native.Nat.{ℕ, suc, ◌+◌, ◌-◌, ◌*◌, ◌<◌, ◌≤◌}
use native.Mathlib.Nat.{add-zero}
use native.Mathlib.Numerals.{add-one}
use native.Mathlib.Omega.{arith}
use lib.ListN.{length, get_or, drop, set, replicate, length-append, drop_of_length-le}
use lib.Seq.{sets, get_or-drop, drop-cons, drop-drop}
use Rattle.standard.specs.Bits.{bits}
use Rattle.standard.specs.BitsLaws.{drop_bits}
use Rattle.standard.specs.Factors.{source_of, group, groups_from, sources_of, Source, plan_bits, factors_from, width_of, factor_by}
use Rattle.standard.proofs.FactorsLaws.{group-length, group-small, groups_small, plan-bits_cons, plan-bits_append, factors_cons, factors_length, factors_append, factors_bits}
use Rattle.scale_factors.specs.Groups.{filled, Readable, Fit}
use Rattle.standard.specs.declared.Group.{Group}
use Rattle.standard.specs.declared.Plan.{Plan}

sets_append : {A : Type 0} (us vs : List A) (l : List A) (i : ℕ) → sets l i (us ++ vs) ≡ sets (sets l i us) (i + length us) vs
sets_append [] vs l i = ap (λ (k : ℕ). sets l k vs) (sym (add-zero i))
sets_append (u ∷ us) vs l i =
    let p : suc i + length us ≡ i + suc (length us) = omega arith in
    sets_append us vs (set l i u) (suc i) ∙ ap (λ (k : ℕ). sets (sets (set l i u) (suc i) us) k vs) p

-- first the factors of qs, then those of ps
filled-append : (qs ps : List Source) (fs : List ℕ) (i : ℕ) (old s : List ℕ) (at : ℕ)
    → filled fs i (qs ++ ps) old s at ≡ filled (filled fs i qs old s at) (i + length qs) ps old s (at + plan_bits qs)
unfolding filled
filled-append qs ps fs i old s at =
    let b = bits s at (plan_bits qs + plan_bits ps) in
    let l = plan-bits_append qs ps in
    let h : plan_bits qs ≤ plan_bits qs + plan_bits ps = omega arith in
    let e : plan_bits qs + plan_bits ps - plan_bits qs ≡ plan_bits ps = omega arith in
    ap (λ (n : ℕ). sets fs i (factors_from (qs ++ ps) (drop i old) (bits s at n))) l
    ∙ ap (sets fs i) (factors_append qs ps (drop i old) b)
    ∙ sets_append (factors_from qs (drop i old) b) (factors_from ps (drop (length qs) (drop i old)) (drop (plan_bits qs) b)) fs i
    ∙ (λ j. sets (sets fs i (factors_bits qs (drop i old) s at (plan_bits qs + plan_bits ps) h j)) (i + factors_length qs (drop i old) b j)
    (factors_from ps (drop-drop (length qs) i old j) ((drop_bits (plan_bits qs) s at (plan_bits qs + plan_bits ps) ∙ ap (bits s (at + plan_bits qs)) e) j)))

pub record Reading (answer : List ℕ) (stop : ℕ) (fs : List ℕ) (i : ℕ) (ps : List Source) (old s : List ℕ) (place : ℕ) : Type 0 where
  pub same : answer ≡ filled fs i ps old s place
  pub upto : place + plan_bits ps ≡ stop

pub reading_begin : (fs : List ℕ) (i : ℕ) (ps : List Source) (old s : List ℕ) (at : ℕ)
    → Reading (filled fs i ps old s at) (at + plan_bits ps) fs i ps old s at
reading_begin fs i ps old s at = record { same = refl; upto = refl }

module _ (answer : List ℕ) (stop : ℕ) (fs : List ℕ) (i : ℕ) (old s : List ℕ) (place : ℕ) where
  -- a part is read
  pub reading_part : (qs ps : List Source) {fs' : List ℕ} → Reading answer stop fs i (qs ++ ps) old s place → fs' ≡ filled fs i qs old s place
      → Reading answer stop fs' (i + length qs) ps old s (place + plan_bits qs)
  reading_part qs ps r e =
      record {
        same = r.same ∙ filled-append qs ps fs i old s place ∙ ap (λ (l : List ℕ). filled l (i + length qs) ps old s (place + plan_bits qs)) (sym e);
        upto = omega (arith, r.upto, plan-bits_append qs ps);
      }

  -- one factor is read
  pub reading_one : (x : Source) (ps : List Source) (v : ℕ) → Reading answer stop fs i (x ∷ ps) old s place
      → v ≡ factor_by x (get_or old i 0) (bits s place (width_of x)) → Reading answer stop (set fs i v) (i + 1) ps old s (place + width_of x)
  unfolding filled factors_from plan_bits
  reading_one x ps v r e =
      let w : plan_bits (x ∷ []) ≡ width_of x = plan-bits_cons x [] ∙ add-zero (width_of x) in
      let o : get_or old i 0 ≡ get_or (drop i old) 0 0 = sym (get_or-drop i old 0 0 ∙ ap (λ (k : ℕ). get_or old k 0) (add-zero i)) in
      let v-is : v ≡ factor_by x (get_or (drop i old) 0 0) (bits s place (plan_bits (x ∷ []))) = e ∙ (λ j. factor_by x (o j) (bits s place (sym w j))) in
      let q : set fs i v ≡ filled fs i (x ∷ []) old s place = ap (set fs i) v-is
      ∙ ap (sets fs i) (sym (factors_cons x [] (drop i old) (bits s place (plan_bits (x ∷ []))))) in
      subst (λ (n : ℕ). Reading answer stop (set fs i v) (i + 1) ps old s (place + n)) w (reading_part (x ∷ []) ps r q)

  pub reading_end : Reading answer stop fs i [] old s place → (place ≡ stop) × (fs ≡ answer)
  unfolding filled plan_bits factors_from
  reading_end r = (omega (arith, r.upto), sym r.same)

-- ---- the factors of a group, one by one: they have one source
-- what is written, with the factors of the group from the i-th place on, is the whole
pub record InGroup (g : Group) (old s : List ℕ) (at : ℕ) (before : List ℕ) (first : ℕ) (fs : List ℕ) (place i : ℕ) : Type 0 where
  pub reads : Reading (filled before first (group g) old s at) (at + plan_bits (group g)) fs i (replicate (first + g.count - i) (source_of g)) old s place

pub group-begin : (g : Group) (old s : List ℕ) (at : ℕ) (before : List ℕ) (first : ℕ) → InGroup g old s at before first before at first
unfolding group
group-begin g old s at before first =
    let n : g.count ≡ first + g.count - first = omega arith in
    let answer = filled before first (group g) old s at in
    let stop = at + plan_bits (group g) in
    record { reads = subst (λ (k : ℕ). Reading answer stop before first (replicate k (source_of g)) old s at) n (reading_begin before first (group g) old s at) }

module _ (g : Group) (old s : List ℕ) (at : ℕ) (before : List ℕ) (first : ℕ) (fs : List ℕ) (place i : ℕ) (w : InGroup g old s at before first fs place i) where
  answer : List ℕ
  answer = filled before first (group g) old s at

  stop : ℕ
  stop = at + plan_bits (group g)

  left : ℕ → List Source
  left n = replicate n (source_of g)

  pub group-turn : (v width : ℕ) → i < first + g.count → width ≡ width_of (source_of g)
      → v ≡ factor_by (source_of g) (get_or old i 0) (bits s place (width_of (source_of g)))
      → InGroup g old s at before first (set fs i v) (place + width) (i + 1)
  unfolding answer stop left
  group-turn v width h e q =
      let n = first + g.count - (i + 1) in
      let k : first + g.count - i ≡ suc n = omega arith in
      let r : Reading answer stop fs i (source_of g ∷ left n) old s place = subst (λ (m : ℕ). Reading answer stop fs i (left m) old s place) k w.reads in
      record {
        reads =
            subst (λ (m : ℕ). Reading answer stop (set fs i v) (i + 1) (left n) old s (place + m)) (sym e)
            (reading_one answer stop fs i old s place (source_of g) (left n) v r q);
      }

  pub group-end : first + g.count ≤ i → (place ≡ at + plan_bits (group g)) × (fs ≡ filled before first (group g) old s at)
  unfolding answer stop left
  group-end h =
      let k : first + g.count - i ≡ 0 = omega arith in
      reading_end answer stop fs i old s place (subst (λ (m : ℕ). Reading answer stop fs i (left m) old s place) k w.reads)

  -- no place within a group is far
  pub group-near : g.length ≤ 5 → place ≤ at + 5 * g.count
  group-near h = omega (arith, w.reads.upto, group-small g h)

-- ---- the groups of a plan, one by one
-- what is written, with the groups gs, is the whole
pub record InPlan (p : Plan) (old s : List ℕ) (at : ℕ) (before : List ℕ) (fs : List ℕ) (place done : ℕ) (gs : List Group) : Type 0 where
  pub count : done + length (groups_from gs) ≡ length (sources_of p)
  pub reads : Reading (filled before 0 (sources_of p) old s at) (at + plan_bits (sources_of p)) fs done (groups_from gs) old s place

-- the i-th group, and those after it
next_group : (gs : List Group) (i : ℕ) (g : Group) → i < length gs → groups_from (drop i gs) ≡ group (get_or gs i g) ++ groups_from (drop (i + 1) gs)
unfolding groups_from
next_group gs i g h = ap groups_from (drop-cons gs i g h) ∙ ap (λ (n : ℕ). group (get_or gs i g) ++ groups_from (drop n gs)) (sym (add-one i))

pub next_bits : (gs : List Group) (i : ℕ) (g : Group) → i < length gs
    → plan_bits (groups_from (drop i gs)) ≡ plan_bits (group (get_or gs i g)) + plan_bits (groups_from (drop (i + 1) gs))
next_bits gs i g h = ap plan_bits (next_group gs i g h) ∙ plan-bits_append (group (get_or gs i g)) (groups_from (drop (i + 1) gs))

pub no_bits : (gs : List Group) (i : ℕ) → length gs ≤ i → plan_bits (groups_from (drop i gs)) ≡ 0
unfolding groups_from plan_bits
no_bits gs i h = ap (λ (l : List Group). plan_bits (groups_from l)) (drop_of_length-le gs h)

module _ (p : Plan) (old s : List ℕ) (at : ℕ) (before : List ℕ) where
  pub plan-begin : InPlan p old s at before before at 0 (drop 0 p.groups)
  plan-begin = record { count = omega arith; reads = reading_begin before 0 (sources_of p) old s at }

  module _ (fs : List ℕ) (place done i : ℕ) (w : InPlan p old s at before fs place done (drop i p.groups)) (g : Group) (h : i < length p.groups) where
    own : Group
    own = get_or p.groups i g

    next : groups_from (drop i p.groups) ≡ group own ++ groups_from (drop (i + 1) p.groups)
    unfolding own
    next = next_group p.groups i g h

    pub plan-group : Fit p at → Readable (get_or p.groups i g) done place
    unfolding own
    plan-group f =
        let l : done + own.count ≤ length (sources_of p) = omega (arith, w.count, simp length-append at (ap length next), group-length own) in
        record {
          narrow = f.narrow i g h;
          few = omega (arith, f.few);
          mate = λ e. omega (arith, f.mate i g h e);
          near = omega (arith, f.near, w.reads.upto, f.few, groups_small p.groups f.narrow);
        }

    pub plan-turn : (fs' : List ℕ) (place' : ℕ)
        → (place' ≡ place + plan_bits (group (get_or p.groups i g))) × (fs' ≡ filled fs done (group (get_or p.groups i g)) old s place)
        → InPlan p old s at before fs' place' (done + (get_or p.groups i g).count) (drop (i + 1) p.groups)
    unfolding own
    plan-turn fs' place' e =
        let answer = filled before 0 (sources_of p) old s at in
        let stop = at + plan_bits (sources_of p) in
        let rest = groups_from (drop (i + 1) p.groups) in
        let n = group-length own in
        let r : Reading answer stop fs done (group own ++ rest) old s place = subst (λ (ps : List Source). Reading answer stop fs done ps old s place)
        next w.reads in
        let r' : Reading answer stop fs' (done + length (group own)) rest old s (place + plan_bits (group own)) = reading_part answer stop fs done old s place (group own) rest r
        e.1 in
        record {
          count = omega (arith, w.count, n, simp length-append at (ap length next));
          reads =
              subst (λ (k : ℕ). Reading answer stop fs' (done + k) rest old s place') n
              (subst (Reading answer stop fs' (done + length (group own)) rest old s) (sym e.0) r');
        }

  pub plan-end : (fs : List ℕ) (place done i : ℕ) → InPlan p old s at before fs place done (drop i p.groups) → length p.groups ≤ i
      → fs ≡ filled before 0 (sources_of p) old s at
  unfolding groups_from
  plan-end fs place done i w h =
      let answer = filled before 0 (sources_of p) old s at in
      let stop = at + plan_bits (sources_of p) in
      (reading_end answer stop fs done old s place
      (subst (λ (gs : List Group). Reading answer stop fs done (groups_from gs) old s place) (drop_of_length-le p.groups h) w.reads)).1
