-- ASCII is UTF-8.
use Rattle.std.proofs.Common.{◌≡◌, ℕ, zero, suc, ◌<◌, Bool, true, false, ◌&&◌, List, [], ◌∷◌, refl}
use Rattle.std.specs.Prelude.{IsUtf8, IsAscii, nat_lt}
use Rattle.std.proofs.lemmas.Bool.{leb-true}
use Rattle.std.proofs.lemmas.Str.{IsUtf8-from_ascii}
use Rattle.std.proofs.lemmas.Str.Ascii.{IsAscii-nil}

abbrev pub are_ascii : List ℕ → Bool
are_ascii [] = true
are_ascii (b ∷ bs) = nat_lt b 128 && are_ascii bs

both_true : (a b : Bool) → a && b ≡ true → (a ≡ true) × (b ≡ true)
both_true true b h = (refl, h)
both_true false b h = absurd (cc)

ascii-cons : (b : ℕ) (bs : List ℕ) → b < 128 → IsAscii bs → IsAscii (b ∷ bs)
ascii-cons b bs h rest zero = h
ascii-cons b bs h rest (suc i) = rest i

ascii-all : (bs : List ℕ) → are_ascii bs ≡ true → IsAscii bs
ascii-all [] h = IsAscii-nil
ascii-all (b ∷ bs) h =
    let both = both_true (nat_lt b 128) (are_ascii bs) h in
    ascii-cons b bs (leb-true (suc b) 128 both.0) (ascii-all bs both.1)

pub ascii_text : (bs : List ℕ) → are_ascii bs ≡ true → IsUtf8 bs
ascii_text bs h = IsUtf8-from_ascii bs (ascii-all bs h)
