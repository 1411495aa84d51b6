-- `slots_from` meets its contract. The loop's invariant: what the slots before the k-th came to is answered, and the rest of the definition
-- remains. Assumes nothing.
use Prim.Native.Nat.{◌*◌}
use native.Mathlib.Omega.{arith}
use Rattle.standard.proofs.SideLaws.{four_slots}
use Rattle.standard.specs.Record.{past_record}
use Rattle.frame.proofs.Turns.{turning_begin, turning_part, turning_end, record_at_lem, part_long, four_at_most, some_channels}
use Rattle.frame.proofs.frame_slots.slots_from.Goals as goal

pub slice_bounds-read_slot-end : goal.slice_bounds-read_slot-end
slice_bounds-read_slot-end c =
    omega (arith, c.loop-k.invariant.0, c.loop-k.invariant.2.room, c.loop-k.invariant.2.long, four_at_most c.args.h)

pub overflow_mul-n : goal.overflow_mul-n
overflow_mul-n c = rw (c.granules.ensures, c.channel_count-channels.ensures) (record { fits = omega (arith, four_at_most c.args.h) })

pub loop-k-init : goal.loop-k-init
loop-k-init c = (
  (λ j. c.granules.ensures j * c.channel_count-channels.ensures j),
  c.channel_count-channels.ensures,
  turning_begin _ _ _ _ _ (omega arith) c.lacking_slots-answers.ensures,
)

pub mate_of-old-requires : goal.mate_of-old-requires
mate_of-old-requires c =
    let h = c.args.h in
    (omega (arith, c.loop-k.invariant.0, four_at_most h), omega (arith, c.loop-k.invariant.1, some_channels h))

pub setting_of-g-requires : goal.setting_of-g-requires
setting_of-g-requires c = omega (arith, c.loop-k.invariant.0)

pub read_slot-requires : goal.read_slot-requires
read_slot-requires c =
    let a = c.args in
    let o = c.loop-k in
    let q = record_at_lem a.h a.i c.requires o.k
    (omega (arith, o.invariant.0)) past_record in (
      part_long o.k o.numbers (omega (arith, o.invariant.0, o.invariant.2.room, o.invariant.2.long, four_at_most a.h)),
      q.pairs-le,
      q.length-lt,
      omega (arith, o.invariant.2.near, o.invariant.0, four_at_most a.h),
    )

pub overflow_cast-at : goal.overflow_cast-at
overflow_cast-at c =
    let a = c.args in
    let o = c.loop-k in
    let q = record_at_lem a.h a.i
    c.requires o.k
    (omega (arith, o.invariant.0)) past_record in
    omega (arith, q.length-lt)

pub overflow_add-at : goal.overflow_add-at
overflow_add-at c =
    let a = c.args in
    let o = c.loop-k in
    let q = record_at_lem a.h a.i
    c.requires o.k
    (omega (arith, o.invariant.0)) past_record in
    omega (arith, q.length-lt, o.invariant.2.near, o.invariant.0, four_at_most a.h)

pub loop-k-preserved : goal.loop-k-preserved
loop-k-preserved c =
    let a = c.args in
    let o = c.loop-k in
    let q = record_at_lem a.h a.i
    c.requires o.k
    (omega (arith, o.invariant.0)) past_record in (
      o.invariant.0,
      o.invariant.1,
      turning_part _ _ _ _ _ _ _ _ o.invariant.2
          c.requires _ _ _ _ _
          (omega (arith, o.invariant.0)) q c.setting_of-g.ensures
          (rw o.invariant.1 at c.mate_of-old.ensures) c.read_slot.ensures,
    )

pub returns : goal.returns
returns c =
    turning_end _ _ _ _ _ _ _ _ c.loop-k.invariant.2 (four_slots _ _ c.requires)
    (omega (arith, c.loop-k.invariant.0))
