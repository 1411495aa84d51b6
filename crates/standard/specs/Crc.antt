-- The check word of a frame (11172-3, 2.4.3.1, CRC check): a shift register of sixteen bits, b15 first, with the generator polynomial
-- x^16 + x^15 + x^2 + 1, started at all ones; the bits go in one after the other.
use Rattle.std.specs.Prelude.{Bool, true, false, not, List, [], ◌∷◌, ◌++◌, ℕ, ◌*◌, eqb, replicate}
use Rattle.standard.specs.Bits.{between, value, field_at}

unfoldable pub differ : Bool → Bool → Bool
differ x false = x
differ x true = not x

-- two rows of bits added without carry
unfoldable pub added : List Bool → List Bool → List Bool
added [] q = []
added (x ∷ p) [] = x ∷ p
added (x ∷ p) (y ∷ q) = differ x y ∷ added p q

-- where what comes out at x^16 is added again: at x^15, x^2 and 1
unfoldable pub taps : Bool → List Bool
taps out = out ∷ replicate 12 false ++ out ∷ false ∷ out ∷ []

-- a bit goes in: with b15 it comes out, as all others move up
unfoldable pub feed : List Bool → Bool → List Bool
feed [] b = []
feed (x ∷ r) b = added (r ++ false ∷ []) (taps (differ x b))

unfoldable pub fed : List Bool → List Bool → List Bool
fed r [] = r
fed r (b ∷ bs) = fed (feed r b) bs

unfoldable pub check_word : List Bool → List Bool
check_word bs = fed (replicate 16 true) bs

-- ---- a frame whose header has six bytes, the CRC the last two of them, and whose side information ends before the byte `end`
-- covered are the header's third and fourth byte and the side information, as they stand: of bits that no record keeps, too
unfoldable pub covered : List ℕ → ℕ → List Bool
covered s end = between s 16 32 ++ between s 48 (8 * end)

unfoldable pub crc_fits : List ℕ → ℕ → Bool
crc_fits s end = eqb (value (check_word (covered s end))) (field_at s 32 16)
