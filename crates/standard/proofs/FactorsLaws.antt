-- Laws of scale factors. A plan is read source by source, part after part, and by its own bits alone; every plan is four groups, of 21
-- factors or 36, and of at most 5 bits a factor, whatever a record says; and what is not shared does not go by granule 0.
use Rattle.std.specs.Prelude.{◌≡◌, refl, Bool, true, false, ◌&&◌, All, List, [], ◌∷◌, ◌++◌, ℕ, zero, suc, ◌+◌, ◌*◌, ◌/◌, ◌%◌, ◌<◌, ◌≤◌, ltb, leb, eqb, length, get_or, take, drop, replicate}
use Rattle.std.proofs.Common.{sym, ap, ◌∙◌, subst, zero-add, zero-mul, suc-mul, le_refl, mul-le-mul, arith, lt-ltb, le-ltb, leb-true, eqb-true, length-append, length-drop, take-take, drop-drop}
use Rattle.std.proofs.Math.Decide.{dec_lt}
use Rattle.std.proofs.Math.ListN.{length-replicate}
use Rattle.std.proofs.Math.Seq.{take-nil}
use Rattle.standard.specs.Told.{pick}
use Rattle.standard.specs.ToldLaws.{picked, passed, never, both_of}
use Rattle.standard.specs.Bits.{bits, value}
use Rattle.standard.specs.BitsLaws.{take-bits}
use Rattle.standard.specs.RowsLaws.{every, every-at, every_in}
use Rattle.standard.specs.Lengths.{slen_rows, slen1, slen2, low_range, ordinary_lengths, intensity_lengths, low_lengths, long_counts, short_counts, mixed_counts, intensity_long_counts, intensity_short_counts, intensity_mixed_counts, count_rows, low_counts}
use Rattle.standard.specs.LengthsLaws.{range_lt}
use Rattle.standard.specs.Record.{shape_of}
use Rattle.standard.specs.Factors.{Source, shared, coded, planned, plan_by, plan_of, source_of, group, groups_from, sources_of, may_share, plan_bits, factors_from, long_count, short_count, short_from, factor_count, width_of, factor_by, short_factors, bands_of}
use Rattle.standard.specs.declared.SlotRecord.{SlotRecord}
use Rattle.standard.specs.declared.Setting.{Setting}
use Rattle.standard.specs.declared.Group.{Group}
use Rattle.standard.specs.declared.Plan.{Plan}
use Rattle.standard.specs.declared.Shape.{Shape}
use Rattle.standard.specs.declared.Shape.TheVariants.{AllLong, AllShort, LongThenShort}

-- ---- one source
pub plan-bits_cons : (x : Source) (ps : List Source) → plan_bits (x ∷ ps) ≡ width_of x + plan_bits ps
unfolding plan_bits
plan-bits_cons shared ps = sym (zero-add (plan_bits ps))
plan-bits_cons (coded w) ps = refl

pub factors_cons : (x : Source) (ps : List Source) (old : List ℕ) (b : List Bool)
    → factors_from (x ∷ ps) old b ≡ factor_by x (get_or old 0 0) b ∷ factors_from ps (drop 1 old) (drop (width_of x) b)
unfolding factors_from
factors_cons shared ps old b = refl
factors_cons (coded w) ps old b = refl

-- ---- a plan
pub factors_length : (ps : List Source) (old : List ℕ) (b : List Bool) → length (factors_from ps old b) ≡ length ps
unfolding factors_from
factors_length [] old b = refl
factors_length (x ∷ ps) old b = ap length (factors_cons x ps old b) ∙ ap suc (factors_length ps (drop 1 old) (drop (width_of x) b))

pub plan-bits_append : (ps qs : List Source) → plan_bits (ps ++ qs) ≡ plan_bits ps + plan_bits qs
unfolding plan_bits
plan-bits_append [] qs = sym (zero-add (plan_bits qs))
plan-bits_append (x ∷ ps) qs = omega (arith, plan-bits_cons x (ps ++ qs), plan-bits_cons x ps, plan-bits_append ps qs)

-- a plan is read part after part
pub factors_append : (ps qs : List Source) (old : List ℕ) (b : List Bool)
    → factors_from (ps ++ qs) old b ≡ factors_from ps old b ++ factors_from qs (drop (length ps) old) (drop (plan_bits ps) b)
unfolding factors_from plan_bits
factors_append [] qs old b = refl
factors_append (x ∷ ps) qs old b =
    let v = factor_by x (get_or old 0 0) b in
    let p : 1 + length ps ≡ suc (length ps) = omega arith in
    let o = drop-drop (length ps) 1 old ∙ ap (λ (n : ℕ). drop n old) p in
    let c = drop-drop (plan_bits ps) (width_of x) b ∙ ap (λ (n : ℕ). drop n b) (sym (plan-bits_cons x ps)) in
    factors_cons x (ps ++ qs) old b
    ∙ ap (λ (l : List ℕ). v ∷ l) (factors_append ps qs (drop 1 old) (drop (width_of x) b))
    ∙ (λ j. sym (factors_cons x ps old b) j ++ factors_from qs (o j) (c j))

-- and by its own bits alone
drop-take : (w m : ℕ) (b : List Bool) → drop w (take (w + m) b) ≡ take m (drop w b)
drop-take zero m b = ap (λ (k : ℕ). take k b) (zero-add m)
drop-take (suc w) m [] = let p : suc w + m ≡ suc (w + m) = omega arith in ap (λ (k : ℕ). drop {A = Bool} (suc w) (take k [])) p ∙ sym (take-nil m)
drop-take (suc w) m (x ∷ b) = let p : suc w + m ≡ suc (w + m) = omega arith in ap (λ (k : ℕ). drop (suc w) (take k (x ∷ b))) p ∙ drop-take w m b

factor_take : (x : Source) (old m : ℕ) (b : List Bool) → factor_by x old b ≡ factor_by x old (take (width_of x + m) b)
factor_take shared old m b = refl
factor_take (coded w) old m b = ap value (sym (take-take w (w + m) b (omega arith)))

pub factors_take : (ps : List Source) (old : List ℕ) (b : List Bool) → factors_from ps old b ≡ factors_from ps old (take (plan_bits ps) b)
unfolding factors_from
factors_take [] old b = refl
factors_take (x ∷ ps) old b =
    let own = take (width_of x + plan_bits ps) b in
    factors_cons x ps old b
    ∙ (λ j. factor_take x (get_or old 0 0) (plan_bits ps) b j ∷
    (factors_take ps (drop 1 old) (drop (width_of x) b) ∙ ap (factors_from ps (drop 1 old)) (sym (drop-take (width_of x) (plan_bits ps) b))) j)
    ∙ sym (factors_cons x ps old own)
    ∙ ap (λ (n : ℕ). factors_from (x ∷ ps) old (take n b)) (sym (plan-bits_cons x ps))

-- so of a slot that has them, its further bits do not matter
pub factors_bits : (ps : List Source) (old s : List ℕ) (at n : ℕ) → plan_bits ps ≤ n
    → factors_from ps old (bits s at n) ≡ factors_from ps old (bits s at (plan_bits ps))
factors_bits ps old s at n h = factors_take ps old (bits s at n) ∙ ap (factors_from ps old) (take-bits (plan_bits ps) s at n h)

-- ---- how many factors a plan has, by its shape
total : List ℕ → ℕ
total ns = get_or ns 0 0 + get_or ns 1 0 + get_or ns 2 0 + get_or ns 3 0

-- the three rows of one kind of slot have one total
three_rows : (n : ℕ) (rows : List (List ℕ)) → every (λ (row : List ℕ). eqb (total row) n) rows ≡ true → length rows ≡ 3
    → (k : ℕ) → k < 3 → total (get_or rows k []) ≡ n
three_rows n rows t e k h = eqb-true _ _ (every_in (λ (row : List ℕ). eqb (total row) n) [] rows t k (omega arith))

low-total : (intensity : Bool) (k : Shape) (n : ℕ) → n < 3 → total (get_or (count_rows intensity k) n []) ≡ factor_count false k
unfolding every long_counts short_counts mixed_counts intensity_long_counts intensity_short_counts intensity_mixed_counts total
low-total false AllLong = three_rows 21 long_counts refl refl
low-total false AllShort = three_rows 36 short_counts refl refl
low-total false LongThenShort = three_rows 33 mixed_counts refl refl
low-total true AllLong = three_rows 21 intensity_long_counts refl refl
low-total true AllShort = three_rows 36 intensity_short_counts refl refl
low-total true LongThenShort = three_rows 33 intensity_mixed_counts refl refl

groups_total : (ns ws : List ℕ) (xs : List Bool) → length (sources_of (planned ns ws xs)) ≡ total ns
unfolding group groups_from total
groups_total ns ws xs = simp (length-append, length-replicate) (omega arith)

pub few_factors : (mpeg1 : Bool) (k : Shape) → factor_count mpeg1 k ≤ 36
few_factors mpeg1 AllLong = omega arith
few_factors mpeg1 AllShort = omega arith
few_factors true LongThenShort = omega arith
few_factors false LongThenShort = omega arith

-- ---- no factor has more than 5 bits
abbrev Small : List ℕ → Type 0
Small ws = (g : ℕ) → get_or ws g 0 ≤ 5

small-four : {a b c d : ℕ} → a ≤ 5 → b ≤ 5 → c ≤ 5 → d ≤ 5 → Small (a ∷ b ∷ c ∷ d ∷ [])
small-four p q r s zero = p
small-four p q r s (suc zero) = q
small-four p q r s (suc (suc zero)) = r
small-four p q r s (suc (suc (suc zero))) = s
small-four p q r s (suc (suc (suc (suc g)))) = omega arith

slen_small : (c : ℕ) → (slen1 c ≤ 5) × (slen2 c ≤ 5)
unfolding every slen_rows slen1 slen2
slen_small c =
    let both = both_of _ _ (every-at (λ (row : List ℕ). leb (get_or row 0 0) 5 && leb (get_or row 1 0) 5) [] slen_rows refl refl c) in
    (leb-true _ _ both.0, leb-true _ _ both.1)

by_test : {A : Type 0} (P : A → Type 0) (m n : ℕ) {x y : A} → (m < n → P x) → (n ≤ m → P y) → P (pick (ltb m n) x y)
by_test P m n {x} {y} f g =
    elim (dec_lt m n) [ yes h ↦ subst P (sym (picked y (lt-ltb m n h))) (f h) | no h ↦ subst P (sym (passed x (le-ltb m n (omega arith)))) (g (omega arith)) ]

ordinary_small : (c : ℕ) → c < 512 → Small (ordinary_lengths c)
unfolding ordinary_lengths
ordinary_small c h =
    by_test Small c 400 (λ l. small-four (omega arith) (omega arith) (omega arith) (omega arith))
    (λ l. by_test Small c 500 (λ m. small-four (omega arith) (omega arith) (omega arith) (omega arith))
    (λ m. small-four (omega arith) (omega arith) (omega arith) (omega arith)))

intensity_small : (c : ℕ) → c < 256 → Small (intensity_lengths c)
unfolding intensity_lengths
intensity_small c h =
    by_test Small c 180 (λ l. small-four (omega arith) (omega arith) (omega arith) (omega arith))
    (λ l. by_test Small c 244 (λ m. small-four (omega arith) (omega arith) (omega arith) (omega arith))
    (λ m. small-four (omega arith) (omega arith) (omega arith) (omega arith)))

abbrev pub Narrow : Group → Type 0
Narrow g = g.length ≤ 5

each-four : {A : Type 0} (P : A → Type 0) {a b c d : A} → P a → P b → P c → P d → All P (a ∷ b ∷ c ∷ d ∷ [])
each-four P p q r s zero e h = p
each-four P p q r s (suc zero) e h = q
each-four P p q r s (suc (suc zero)) e h = r
each-four P p q r s (suc (suc (suc zero))) e h = s
each-four P p q r s (suc (suc (suc (suc g)))) e h = absurd (omega arith)

-- the members but the first
each-rest : {A : Type 0} (P : A → Type 0) (a : A) (l : List A) → All P (a ∷ l) → All P l
each-rest P a l h k e w = h (suc k) e (omega arith)

width_small : (x : Bool) {w : ℕ} → w ≤ 5 → width_of (pick x shared (coded w)) ≤ 5
unfolding pick
width_small true h = omega arith
width_small false h = h

pub source_small : (g : Group) → Narrow g → width_of (source_of g) ≤ 5
source_small g h = width_small g.shared h

copies_bits : (n : ℕ) (x : Source) → plan_bits (replicate n x) ≡ n * width_of x
unfolding plan_bits
copies_bits zero x = sym (zero-mul (width_of x))
copies_bits (suc n) x = omega (arith, plan-bits_cons x (replicate n x), copies_bits n x, suc-mul n (width_of x))

module _ (g : Group) where
  pub group-bits : plan_bits (group g) ≡ g.count * width_of (source_of g)
  unfolding group
  group-bits = copies_bits g.count (source_of g)

  pub group-length : length (group g) ≡ g.count
  unfolding group
  group-length = length-replicate g.count (source_of g)

  pub group-small : Narrow g → plan_bits (group g) ≤ 5 * g.count
  group-small h = let most = mul-le-mul (le_refl g.count) (source_small g h) in omega (arith, group-bits)

pub groups_small : (gs : List Group) → All Narrow gs → plan_bits (groups_from gs) ≤ 5 * length (groups_from gs)
unfolding groups_from plan_bits
groups_small [] h = omega arith
groups_small (g ∷ gs) h =
    omega (
      arith,
      plan-bits_append (group g) (groups_from gs),
      length-append (group g) (groups_from gs),
      group-length g,
      group-small g (h 0 g (omega arith)),
      groups_small gs (each-rest Narrow g gs h),
    )

-- ---- what holds of the plan of every slot
-- a group that is not shared
abbrev pub Own : Group → Type 0
Own g = g.shared ≡ false

none-shared : (n g : ℕ) → get_or (replicate n false) g false ≡ false
none-shared zero g = refl
none-shared (suc n) zero = refl
none-shared (suc n) (suc g) = none-shared n g

-- so many factors, none of more than 5 bits; only long bands share, and only by a bit in force
record Made (mpeg1 : Bool) (shares : List Bool) (k : Shape) (p : Plan) : Type 0 where
  pub many : length (sources_of p) ≡ factor_count mpeg1 k
  pub narrow : All Narrow p.groups
  pub own : may_share k ≡ false → All Own p.groups
  pub kept : ((g : ℕ) → get_or shares g false ≡ false) → All Own p.groups

made : (mpeg1 : Bool) (shares : List Bool) (k : Shape) (ns ws : List ℕ) (xs : List Bool) → total ns ≡ factor_count mpeg1 k → Small ws
    → (may_share k ≡ false → (g : ℕ) → get_or xs g false ≡ false)
    → (((g : ℕ) → get_or shares g false ≡ false) → (g : ℕ) → get_or xs g false ≡ false) → Made mpeg1 shares k (planned ns ws xs)
made mpeg1 shares k ns ws xs n h f g =
    record {
      many = groups_total ns ws xs ∙ n;
      narrow = each-four Narrow (h 0) (h 1) (h 2) (h 3);
      own = λ e. each-four Own (f e 0) (f e 1) (f e 2) (f e 3);
      kept = λ e. each-four Own (g e 0) (g e 1) (g e 2) (g e 3);
    }

made_alone : (mpeg1 : Bool) (shares : List Bool) (k : Shape) (ns ws : List ℕ) → total ns ≡ factor_count mpeg1 k → Small ws
    → Made mpeg1 shares k (planned ns ws (replicate 4 false))
made_alone mpeg1 shares k ns ws n h = made mpeg1 shares k ns ws (replicate 4 false) n h (λ _. none-shared 4) (λ _. none-shared 4)

low_small : (intensity : Bool) (c : ℕ) → Small (low_lengths intensity (c % 512))
unfolding low_lengths
low_small false c = ordinary_small (c % 512) (omega arith)
low_small true c = intensity_small (c % 512 / 2) (omega arith)

plan_by-made : (mpeg1 intensity : Bool) (shares : List Bool) (k : Shape) (c : ℕ) → Made mpeg1 shares k (plan_by mpeg1 intensity shares k c)
unfolding plan_by total low_counts
plan_by-made true intensity shares AllLong c =
    let w = slen_small c in
    made true shares AllLong (6 ∷ 5 ∷ 5 ∷ 5 ∷ []) (slen1 c ∷ slen1 c ∷ slen2 c ∷ slen2 c ∷ []) shares refl (small-four w.0 w.0 w.1 w.1)
    (λ e. never (sym e)) (λ h. h)
plan_by-made true intensity shares AllShort c =
    let w = slen_small c in
    made_alone true shares AllShort (18 ∷ 18 ∷ 0 ∷ 0 ∷ []) (slen1 c ∷ slen2 c ∷ 0 ∷ 0 ∷ []) refl (small-four w.0 w.1 (omega arith) (omega arith))
plan_by-made true intensity shares LongThenShort c =
    let w = slen_small c in
    made_alone true shares LongThenShort (8 ∷ 9 ∷ 18 ∷ 0 ∷ []) (slen1 c ∷ slen1 c ∷ slen2 c ∷ 0 ∷ []) refl (small-four w.0 w.0 w.1 (omega arith))
plan_by-made false intensity shares k c =
    made_alone false shares k (low_counts intensity k (c % 512)) (low_lengths intensity (c % 512))
    (low-total intensity k (low_range intensity (c % 512)) (range_lt intensity (c % 512))) (low_small intensity c)

pub plan-length : (g : Setting) (r : SlotRecord) → length (sources_of (plan_of g r)) ≡ factor_count g.mpeg1 (shape_of r)
unfolding plan_of
plan-length g r = (plan_by-made g.mpeg1 g.intensity g.shares (shape_of r) r.scalefac_compress).many

module _ (mpeg1 intensity : Bool) (shares : List Bool) (k : Shape) (c : ℕ) where
  pub lengths_small : All Narrow (plan_by mpeg1 intensity shares k c).groups
  lengths_small = (plan_by-made mpeg1 intensity shares k c).narrow

  pub shape_unshares : may_share k ≡ false → All Own (plan_by mpeg1 intensity shares k c).groups
  shape_unshares = (plan_by-made mpeg1 intensity shares k c).own

  pub none-unshares : ((g : ℕ) → get_or shares g false ≡ false) → All Own (plan_by mpeg1 intensity shares k c).groups
  none-unshares = (plan_by-made mpeg1 intensity shares k c).kept

pub plan-small : (g : Setting) (r : SlotRecord) → plan_bits (sources_of (plan_of g r)) ≤ 180
unfolding plan_of
plan-small g r =
    let q = groups_small (plan_of g r).groups (lengths_small g.mpeg1 g.intensity g.shares (shape_of r) r.scalefac_compress) in
    omega (arith, q, plan-length g r, few_factors g.mpeg1 (shape_of r))

-- ---- what is not shared does not go by granule 0
abbrev pub Unshared : List Source → Type 0
Unshared ps = (old old' : List ℕ) (b : List Bool) → factors_from ps old b ≡ factors_from ps old' b

copies_unshared : (n w : ℕ) → Unshared (replicate n (coded w))
unfolding factors_from
copies_unshared zero w old old' b = refl
copies_unshared (suc n) w old old' b = ap (λ (l : List ℕ). value (take w b) ∷ l) (copies_unshared n w (drop 1 old) (drop 1 old') (drop w b))

group_unshared : (g : Group) → Own g → Unshared (group g)
unfolding pick group
group_unshared g h = subst (λ (x : Bool). Unshared (replicate g.count (pick x shared (coded g.length)))) (sym h) (copies_unshared g.count g.length)

groups_unshared : (gs : List Group) → All Own gs → Unshared (groups_from gs)
unfolding groups_from factors_from
groups_unshared [] h old old' b = refl
groups_unshared (g ∷ gs) h old old' b =
    let own = group g in
    let rest = groups_from gs in
    factors_append own rest old b
    ∙ (λ j. group_unshared g (h 0 g (omega arith)) old old' b j ++ groups_unshared gs (each-rest Own g gs h) (drop (length own) old) (drop (length own) old') (drop (plan_bits own) b) j)
    ∙ sym (factors_append own rest old' b)

pub shape_unshared : (g : Setting) (r : SlotRecord) → may_share (shape_of r) ≡ false → Unshared (sources_of (plan_of g r))
unfolding plan_of
shape_unshared g r e = groups_unshared (plan_of g r).groups (shape_unshares g.mpeg1 g.intensity g.shares (shape_of r) r.scalefac_compress e)

pub unshared_plan : (g : Setting) (r : SlotRecord) → ((n : ℕ) → get_or g.shares n false ≡ false) → Unshared (sources_of (plan_of g r))
unfolding plan_of
unshared_plan g r h = groups_unshared (plan_of g r).groups (none-unshares g.mpeg1 g.intensity g.shares (shape_of r) r.scalefac_compress h)

-- ---- short factors are 39, in bands of three
pub plan-factors_length : (g : Setting) (r : SlotRecord) (old : List ℕ) (b : List Bool)
    → length (factors_from (sources_of (plan_of g r)) old b) ≡ factor_count g.mpeg1 (shape_of r)
plan-factors_length g r old b = factors_length (sources_of (plan_of g r)) old b ∙ plan-length g r

-- no slot has more than 21 long ones, and the short ones end before the last band
pub room : (mpeg1 : Bool) (k : Shape) → (long_count mpeg1 k ≤ 21) × (short_from k + short_count k ≤ 36)
room mpeg1 AllLong = (omega arith, omega arith)
room mpeg1 AllShort = (omega arith, omega arith)
room true LongThenShort = (omega arith, omega arith)
room false LongThenShort = (omega arith, omega arith)

pub short_length : (mpeg1 : Bool) (k : Shape) (fs : List ℕ) → length fs ≡ factor_count mpeg1 k → length (short_factors mpeg1 k fs) ≡ 39
unfolding short_factors
short_length mpeg1 k fs e = simp (length-append, length-replicate, length-drop) (omega (arith, room mpeg1 k))

pub bands_length : (n : ℕ) (fs : List ℕ) → length (bands_of n fs) ≡ n
unfolding bands_of
bands_length zero fs = refl
bands_length (suc n) fs = ap suc (bands_length n (drop 3 fs))

pub bands_at : (n : ℕ) (fs : List ℕ) (b : ℕ) → b < n → get_or (bands_of n fs) b [] ≡ take 3 (drop (3 * b) fs)
unfolding bands_of
bands_at zero fs b h = absurd (omega arith)
bands_at (suc n) fs zero h = refl
bands_at (suc n) fs (suc b) h =
    let p : 3 + 3 * b ≡ 3 * suc b = omega arith in
    bands_at n (drop 3 fs) b (omega arith) ∙ ap (take 3) (drop-drop (3 * b) 3 fs ∙ ap (λ (k : ℕ). drop k fs) p)
