-- What no two readers may disagree on, for every public function of `lines`. Printed by scripts/catalogue.
use Prim.Native.Nat.{ℕ}
use Rattle.demands.proofs.Call.{OneShown, alike}
use mathlib.Core.List.{List}
use Rattle.lines.proofs.Text.said.Reads as said
use Rattle.lines.proofs.Text.said.Kinds as said-kinds
use Rattle.lines.proofs.Text.put.Reads as put
use Rattle.lines.proofs.Text.put.Kinds as put-kinds
use Rattle.lines.proofs.Text.number.Reads as number
use Rattle.lines.proofs.Text.number.Kinds as number-kinds
use Rattle.lines.proofs.Text.signed.Reads as signed
use Rattle.lines.proofs.Text.signed.Kinds as signed-kinds
use Rattle.lines.proofs.Text.frame.Reads as frame
use Rattle.lines.proofs.Text.frame.Kinds as frame-kinds
use Rattle.lines.proofs.Text.refused.Reads as refused
use Rattle.lines.proofs.Text.refused.Kinds as refused-kinds
use Rattle.lines.proofs.Text.end.Reads as end
use Rattle.lines.proofs.Text.end.Kinds as end-kinds
use Rattle.lines.proofs.Text.numbers.Reads as numbers
use Rattle.lines.proofs.Text.numbers.Kinds as numbers-kinds
use Rattle.lines.proofs.Text.slots.Reads as slots
use Rattle.lines.proofs.Text.slots.Kinds as slots-kinds
use Rattle.lines.proofs.part.Reads as part
use Rattle.lines.proofs.part.Kinds as part-kinds

pub said_unique : OneShown said-kinds.ps said-kinds.r said.Post (λ κs x s. x.now)
said_unique κs a x y s t p q = alike p q

pub put_unique : OneShown put-kinds.ps put-kinds.r put.Post {S = List ℕ × ℕ}
    (λ κs x s. (s.0.now.bytes.now, s.0.now.at))
put_unique κs a x y s t p q = λ j. (alike p.put.bytes q.put.bytes j, alike p.put.next q.put.next j)

pub number_unique : OneShown number-kinds.ps number-kinds.r number.Post {S = List ℕ × ℕ}
    (λ κs x s. (s.0.now.bytes.now, s.0.now.at))
number_unique κs a x y s t p q = λ j. (alike p.put.bytes q.put.bytes j, alike p.put.next q.put.next j)

pub signed_unique : OneShown signed-kinds.ps signed-kinds.r signed.Post {S = List ℕ × ℕ}
    (λ κs x s. (s.0.now.bytes.now, s.0.now.at))
signed_unique κs a x y s t p q = λ j. (alike p.put.bytes q.put.bytes j, alike p.put.next q.put.next j)

pub frame-unique : OneShown frame-kinds.ps frame-kinds.r frame.Post {S = List ℕ × ℕ}
    (λ κs x s. (s.0.now.bytes.now, s.0.now.at))
frame-unique κs a x y s t p q = λ j. (alike p.put.bytes q.put.bytes j, alike p.put.next q.put.next j)

pub refused_unique : OneShown refused-kinds.ps refused-kinds.r refused.Post {S = List ℕ × ℕ}
    (λ κs x s. (s.0.now.bytes.now, s.0.now.at))
refused_unique κs a x y s t p q = λ j. (alike p.put.bytes q.put.bytes j, alike p.put.next q.put.next j)

pub end_unique : OneShown end-kinds.ps end-kinds.r end.Post {S = List ℕ × ℕ}
    (λ κs x s. (s.0.now.bytes.now, s.0.now.at))
end_unique κs a x y s t p q = λ j. (alike p.put.bytes q.put.bytes j, alike p.put.next q.put.next j)

pub numbers_unique : OneShown numbers-kinds.ps numbers-kinds.r numbers.Post {S = List ℕ × ℕ}
    (λ κs x s. (s.0.now.bytes.now, s.0.now.at))
numbers_unique κs a x y s t p q = λ j. (alike p.put.bytes q.put.bytes j, alike p.put.next q.put.next j)

pub slots_unique : OneShown slots-kinds.ps slots-kinds.r slots.Post {S = List ℕ × ℕ}
    (λ κs x s. (s.0.now.bytes.now, s.0.now.at))
slots_unique κs a x y s t p q = λ j. (alike p.put.bytes q.put.bytes j, alike p.put.next q.put.next j)

pub part_unique : OneShown part-kinds.ps part-kinds.r part.Post (λ κs x s. x.now)
part_unique κs a x y s t p q = alike p q
