-- `derived::frame_length` meets its contract: a frame's bytes are few.
use native.Mathlib.Omega.{arith}
use Rattle.standard.specs.Header.{frame_length}
use Rattle.standard.proofs.HeaderLaws.{frame-length_any}
use Rattle.derived.proofs.frame_length.Goals as goal

pub overflow_add-result : goal.overflow_add-result
unfolding frame_length
overflow_add-result c = record { fits = omega (arith, c.data_size.ensures, c.header_size.ensures, frame-length_any c.args.h) }
