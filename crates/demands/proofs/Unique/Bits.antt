-- What no two readers may disagree on, for every public function of `bits`. Printed by scripts/catalogue.
use Rattle.demands.proofs.Call.{OneAnswer, alike}
use Rattle.bits.proofs.bit.Reads as bit
use Rattle.bits.proofs.bit.Kinds as bit-kinds
use Rattle.bits.proofs.byte.Reads as byte
use Rattle.bits.proofs.byte.Kinds as byte-kinds
use Rattle.bits.proofs.eight.Reads as eight
use Rattle.bits.proofs.eight.Kinds as eight-kinds
use Rattle.bits.proofs.word.Reads as word
use Rattle.bits.proofs.word.Kinds as word-kinds
use Rattle.bits.proofs.field.Reads as field
use Rattle.bits.proofs.field.Kinds as field-kinds
use Rattle.bits.proofs.one.Reads as one
use Rattle.bits.proofs.one.Kinds as one-kinds
use Rattle.bits.proofs.left.Reads as left
use Rattle.bits.proofs.left.Kinds as left-kinds

pub bit_unique : OneAnswer bit-kinds.ps bit-kinds.r bit.Post
bit_unique κs a x y s t p q = alike p q

pub byte-unique : OneAnswer byte-kinds.ps byte-kinds.r byte.Post
byte-unique κs a x y s t p q = alike p.0 q.0

pub eight_unique : OneAnswer eight-kinds.ps eight-kinds.r eight.Post
eight_unique κs a x y s t p q = alike p q

pub word_unique : OneAnswer word-kinds.ps word-kinds.r word.Post
word_unique κs a x y s t p q = alike p q

pub field-unique : OneAnswer field-kinds.ps field-kinds.r field.Post
field-unique κs a x y s t p q = alike p q

pub one-unique : OneAnswer one-kinds.ps one-kinds.r one.Post
one-unique κs a x y s t p q = alike p q

pub left_unique : OneAnswer left-kinds.ps left-kinds.r left.Post
left_unique κs a x y s t p q = alike p q
