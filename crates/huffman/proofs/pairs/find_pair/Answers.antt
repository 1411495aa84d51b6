-- `huffman::pairs::find_pair` meets its contract: its numbers stand after its codeword. Assumes nothing.
use native.Mathlib.Omega.{arith}
use Rattle.standard.proofs.NumbersLaws.{escape_le}
use Rattle.huffman.proofs.Finding.{pair_found, plain_values}
use Rattle.huffman.proofs.pairs.find_pair.Goals as goal

pub find-f-requires : goal.find-f-requires
find-f-requires c = let k = c.requires.1 in record { code = k.code; is = k.is }

pub escaped-b-requires : goal.escaped-b-requires
escaped-b-requires c =
    let k = c.requires in
    (c.find-f.ensures.few, omega (arith, k.1.escape, escape_le k.0), omega arith, omega arith)

pub returns-then-f-eq1 : goal.returns-then-f-eq1
returns-then-f-eq1 c =
    let f = c.find-f in
    let b = c.escaped-b in (
      (λ table w s p h. pair_found f.ensures (omega arith) s p h w b.result.value.0 b.result.value.1 b.result.used (b.ensures.0 s p h)),
      omega (arith, f.ensures.few, b.ensures.1),
    )

pub plain-b-requires : goal.plain-b-requires
plain-b-requires c = let f = c.find-f.ensures in let v = plain_values f c.if-f-eq1.false in (f.few, v.0, v.1)

pub returns : goal.returns
returns c =
    let f = c.find-f in
    let b = c.plain-b in (
      (λ table w s p h. pair_found f.ensures (omega arith) s p h w b.result.value.0 b.result.value.1 b.result.used (b.ensures.0 _ s p h)),
      omega (arith, f.ensures.few, b.ensures.1),
    )
