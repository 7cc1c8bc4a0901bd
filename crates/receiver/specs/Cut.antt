-- The first packet of received bytes (document 02, A5): "Given received bytes, tell the first packet's kind and length".
use Rattle.std.specs.Prelude.{ℕ, cond, ◌&&◌, Option, Some, None, List, [], ◌∷◌, eqb, leb, ltb, length}
use Rattle.output.specs.ScanCodes.{is_make, is_break}
use Rattle.receiver.specs.declared.Kind.{Kind}
use Rattle.receiver.specs.declared.Kind.TheVariants.{Make, Break, VersionOrBreak, Status, MousePosition, MouseMotion, Time, BothSticks, StickEvent}
use Rattle.receiver.specs.declared.Cut.{Cut}
use Rattle.receiver.specs.declared.Cut.TheVariants.{Whole, TooFew, NoPacket}

-- "0xF6 8, 0xF7 6, 0xF8 to 0xFB 3, 0xFC 7, 0xFD 3, 0xFE and 0xFF 2; 1 to 0x72, 0x74, 0x75, the breaks of all these, 1. 0xF0 is named as both its meanings."
unfoldable pub start : ℕ → Option (Kind × ℕ)
start first =
    cond (is_make first) (Some (Make, 1))
    (cond (eqb first 0xF0) (Some (VersionOrBreak, 1))
    (cond (is_break first) (Some (Break, 1))
    (cond (eqb first 0xF6) (Some (Status, 8))
    (cond (eqb first 0xF7) (Some (MousePosition, 6))
    (cond (leb 0xF8 first && leb first 0xFB) (Some (MouseMotion, 3))
    (cond (eqb first 0xFC) (Some (Time, 7))
    (cond (eqb first 0xFD) (Some (BothSticks, 3))
    (cond (leb 0xFE first && leb first 0xFF) (Some (StickEvent, 2)) None))))))))

-- a packet that has begun so, where n bytes are there: "Too few bytes says so and takes none."
abbrev pub cut_at : Option (Kind × ℕ) → ℕ → Cut
cut_at (Some (kind, length)) n = cond (ltb n length) TooFew (Whole kind length)
cut_at None n = NoPacket

-- the first packet of received bytes; "Empty input is too few."
unfoldable pub cut : List ℕ → Cut
cut [] = TooFew
cut (first ∷ rest) = cut_at (start first) (length (first ∷ rest))

-- the packet's length; "takes none" and "with length 0" where there is none
abbrev pub length_of : Cut → ℕ
length_of (Whole kind length) = length
length_of TooFew = 0
length_of NoPacket = 0

-- "Refusals: 6 ... exactly when the first byte starts no packet."
abbrev pub number : Cut → ℕ
number (Whole kind length) = 0
number TooFew = 0
number NoPacket = 6
