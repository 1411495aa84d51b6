-- What no two readers may disagree on, for every public function of `huffman`. Printed by scripts/catalogue.
use Rattle.demands.proofs.Call.{OneAnswer, OneState, alike}
use Rattle.huffman.proofs.escape_width.Reads as escape-width
use Rattle.huffman.proofs.escape_width.Kinds as escape-width-kinds
use Rattle.huffman.proofs.lookup.Reads as lookup
use Rattle.huffman.proofs.lookup.Kinds as lookup-kinds
use Rattle.huffman.proofs.pair.Reads as pair
use Rattle.huffman.proofs.pair.Kinds as pair-kinds
use Rattle.huffman.proofs.quad.Reads as quad
use Rattle.huffman.proofs.quad.Kinds as quad-kinds
use Rattle.huffman.proofs.read_huffman.Reads as read-huffman
use Rattle.huffman.proofs.read_huffman.Kinds as read-huffman-kinds

pub escape_width_unique : OneAnswer escape-width-kinds.ps escape-width-kinds.r escape-width.Post
escape_width_unique κs a x y s t p q = alike p q

pub lookup_unique : OneAnswer lookup-kinds.ps lookup-kinds.r lookup.Post
lookup_unique κs a x y s t p q = alike p q

pub pair-unique : OneAnswer pair-kinds.ps pair-kinds.r pair.Post
pair-unique κs a x y s t p q = alike p q

pub quad-unique : OneAnswer quad-kinds.ps quad-kinds.r quad.Post
quad-unique κs a x y s t p q = alike p q

pub read-huffman_unique : OneState read-huffman-kinds.ps read-huffman-kinds.r read-huffman.Post (λ κs s. s.1.1.1.1.1.0.now)
read-huffman_unique κs a x y s t p q = (alike p.0 q.0, alike p.1 q.1)
