-- Which bytes of a frame are needed (docs/RULES.md): those from the first on, up to the byte that shows the first fault, or else all of the frame.
-- The definition of an answer reads them in turn; here they are counted, so that what refusal 2 tells can be stated apart from it.
use Rattle.std.specs.Prelude.{Bool, not, ◌||◌, List, ℕ, ◌+◌, ◌*◌, ◌≤◌, ◌<◌, ltb, eqb, length, get_or, Result, Ok, Err}
use Rattle.standard.specs.Told.{pick}
use Rattle.standard.specs.Bits.{one}
use Rattle.standard.specs.Header.{sync_byte, sync_least, ID, layer, protection_bit, bitrate_index, sampling_frequency, emphasis_bits}
use Rattle.standard.specs.Header.{header_of, header_size, side_size, frame_length}
use Rattle.standard.specs.SideInfo.{side_of}
use Rattle.standard.specs.declared.FrameHeader.{FrameHeader}
use Rattle.standard.specs.declared.SideInfo.{SideInfo}
use Rattle.standard.specs.declared.Refusal.{Refusal}

-- ---- a header's, whose bytes may show a fault one by one: the first; the second; the third and fourth together; then the CRC's, if there is one
-- a second byte that begins no header of Layer III: 3, 4, 5, 6
abbrev pub wrong_second : ℕ → Bool
wrong_second b1 = ltb b1 sync_least || eqb (ID b1) 1 || not (eqb (layer b1) 1)

-- a third and fourth byte that spell none: 7, 8, 15, 9
abbrev pub wrong_last : ℕ → ℕ → Bool
wrong_last b2 b3 = eqb (bitrate_index b2) 0 || eqb (bitrate_index b2) 15 || eqb (sampling_frequency b2) 3 || eqb (emphasis_bits b3) 2

-- an absent byte shows a fault here, of the byte 0: so it is needed itself, and none after it
unfoldable pub header_needs : List ℕ → ℕ
header_needs s =
    pick (not (eqb (get_or s 0 0) sync_byte)) 1
    (pick (wrong_second (get_or s 1 0)) 2
    (pick (wrong_last (get_or s 2 0) (get_or s 3 0)) 4
    (4 + 2 * one (eqb (protection_bit (get_or s 1 0)) 0))))

-- ---- a frame's: header and side information, and where these have no fault, the main data
unfoldable pub side_needs : FrameHeader → Result SideInfo Refusal → ℕ
side_needs h (Err r) = header_size h + side_size h
side_needs h (Ok i) = frame_length h

unfoldable pub needs_by : List ℕ → Result FrameHeader Refusal → ℕ
needs_by s (Err r) = header_needs s
needs_by s (Ok h) = side_needs h (side_of h s)

unfoldable pub frame_needs : List ℕ → ℕ
frame_needs s = needs_by s (header_of s)

-- ---- of the places from `from` to before `end`, which are needed, the n-th is the first that the bytes s have not
pub record FirstAbsent (from end : ℕ) (s : List ℕ) (n : ℕ) : Type 0 where
  pub after : from ≤ n
  pub before : n < end
  pub absent : length s ≤ n
  pub least : (p : ℕ) → from ≤ p → p < end → length s ≤ p → n ≤ p
