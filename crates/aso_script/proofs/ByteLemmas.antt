-- What tests of every byte say.
use Rattle.std.proofs.Common.{◌≡◌, ℕ, zero, suc, ◌<◌, ◌&&◌, ◌||◌, not, eqb, length, Bool, true, false, List, [], ◌∷◌, refl, arith}
use Rattle.std.specs.List.{list_all}
use Rattle.std.specs.Str.{IsAscii, IsUtf8, is_utf8}
use Rattle.std.proofs.lemmas.Str.{IsUtf8-from_ascii, IsUtf8-from_is_utf8, is_utf8-from_IsUtf8}
use Rattle.std.proofs.lemmas.Bool.Decides.{nat_tests}
use Rattle.aso_outline.specs.Rules.{is_word_byte, is_word}
use Rattle.aso_script.specs.Script.{is_listed}

pub both : (a b : Bool) → (a && b) ≡ true → (a ≡ true) × (b ≡ true)
both true b h = (refl, h)
both false b h = (h, cc)

pub ascii_by : (test : ℕ → Bool) → ((b : ℕ) → test b ≡ true → b < 128) → (text : List ℕ) → list_all test text ≡ true → IsAscii text
ascii_by test small [] h i = omega arith
ascii_by test small (b ∷ bs) h zero = small b (both (test b) (list_all test bs) h).0
ascii_by test small (b ∷ bs) h (suc i) = ascii_by test small bs (both (test b) (list_all test bs) h).1 i

small_word_byte : (b : ℕ) → is_word_byte b ≡ true → b < 128
small_word_byte b h = grind (arith, nat_tests)

pub word_is_text : (w : List ℕ) → is_word w ≡ true → IsUtf8 w
word_is_text w h = IsUtf8-from_ascii w (ascii_by is_word_byte small_word_byte w (both _ (list_all is_word_byte w) h).1)

pub no_text : (w : List ℕ) → (IsUtf8 w → ⊥) → is_utf8 w ≡ false
no_text w h = (elim (is_utf8 w) as (λ (b : Bool). is_utf8 w ≡ b → b ≡ false) [ true ↦ λ e. absurd (h (IsUtf8-from_is_utf8 w e)) | false ↦ λ e. refl ]) refl

pub listed_is : (w : List ℕ) → IsUtf8 w → eqb (length w) 0 ≡ false → list_all (λ b. not (eqb b 91 || eqb b 93)) w ≡ true → is_listed w ≡ true
listed_is w text some plain = rw (is_utf8-from_IsUtf8 w text, plain) (grind (arith, nat_tests))
