-- Texts of characters and the bytes that encode them.
use Rattle.std.proofs.Common.{List, true, ℕ, ◌≡◌, arith, ◌<◌, subst, [], ◌∷◌, ◌++◌, ap, ◌∙◌, refl, Bool, append-nil, append_assoc, sym}
use Rattle.std.proofs.lemmas.Bool.{and_from, and_parts}
use Rattle.std.proofs.lemmas.List.Elements.{All-weaker}
use Rattle.std.proofs.lemmas.List.Sums.{AllPass-from_list_all, list_all-from_AllPass}
use Rattle.std.proofs.lemmas.Str.{scalars-chars, encodes-chars, chars-IsAscii, IsUtf8-from_ascii, encodes-append}
use Rattle.std.proofs.lemmas.Str.Ascii.{IsAscii-from_all}
use Rattle.std.specs.Char.{is_ascii, encode_utf8}
use Rattle.std.specs.List.{list_all}
use Rattle.std.specs.Str.{encode_utf8_all, all_scalars, chars, IsUtf8}

-- the bytes are those of the characters
pub record AreBytesOf (cs bytes : List ℕ) : Type 0 where
  pub scalars : all_scalars cs ≡ true
  pub encoded : encode_utf8_all cs ≡ bytes

ascii_low : (c : ℕ) → is_ascii c ≡ true → c < 128
ascii_low c a = grind (arith, a)

pub utf8_bytes : (bytes : List ℕ) → IsUtf8 bytes → AreBytesOf (chars bytes) bytes
utf8_bytes bytes u = record { scalars = scalars-chars bytes u; encoded = encodes-chars bytes u }

-- ASCII characters are their own bytes
pub ascii_bytes : (cs : List ℕ) → list_all is_ascii cs ≡ true → AreBytesOf cs cs
ascii_bytes cs a =
    let ascii = IsAscii-from_all cs (All-weaker (λ c. is_ascii c ≡ true) (λ c. c < 128) ascii_low cs (AllPass-from_list_all is_ascii cs a)) in
    subst (λ z. AreBytesOf z cs) (chars-IsAscii cs ascii) (utf8_bytes cs (IsUtf8-from_ascii cs ascii))

pub scalars_append : (cs ds : List ℕ) → all_scalars cs ≡ true → all_scalars ds ≡ true → all_scalars (cs ++ ds) ≡ true
scalars_append [] ds a b = b
scalars_append (c ∷ cs) ds a b = let parts = and_parts _ (all_scalars cs) a in and_from _ (all_scalars (cs ++ ds)) parts.0 (scalars_append cs ds parts.1 b)

-- the bytes of joined characters are the joined bytes
pub bytes_append : (cs bs ds es : List ℕ) → AreBytesOf cs bs → AreBytesOf ds es → AreBytesOf (cs ++ ds) (bs ++ es)
bytes_append cs bs ds es a b = record {
  scalars = scalars_append cs ds a.scalars b.scalars;
  encoded = encodes-append cs ds ∙ ap (λ l. l ++ encode_utf8_all ds) a.encoded ∙ ap (λ l. bs ++ l) b.encoded;
}

-- the bytes of characters are UTF-8
pub bytes_utf8 : (cs bytes : List ℕ) → AreBytesOf cs bytes → IsUtf8 bytes
bytes_utf8 cs bytes a = (cs, (a.scalars, a.encoded))

pub no_bytes : AreBytesOf [] []
no_bytes = record { scalars = refl; encoded = refl }

-- parts of characters are characters
pub scalars_split : (cs ds : List ℕ) → all_scalars (cs ++ ds) ≡ true → (all_scalars cs ≡ true) × (all_scalars ds ≡ true)
scalars_split [] ds a = (refl, a)
scalars_split (c ∷ cs) ds a = let parts = and_parts _ (all_scalars (cs ++ ds)) a in let both = scalars_split cs ds parts.1 in (and_from _ (all_scalars cs) parts.0 both.0, both.1)

-- what passes a test passes a weaker one
pub weaker_test : (test other : ℕ → Bool) → ((c : ℕ) → test c ≡ true → other c ≡ true) → (cs : List ℕ) → list_all test cs ≡ true → list_all other cs ≡ true
weaker_test test other weaker cs a = list_all-from_AllPass other cs (All-weaker (λ c. test c ≡ true) (λ c. other c ≡ true) weaker cs (AllPass-from_list_all test cs a))

pub encode_more : (piece : List ℕ) (c : ℕ) → encode_utf8_all (piece ++ c ∷ []) ≡ encode_utf8_all piece ++ encode_utf8 c
encode_more piece c = encodes-append piece (c ∷ []) ∙ ap (λ l. encode_utf8_all piece ++ l) (append-nil (encode_utf8 c))

pub encode_behind : (text cs : List ℕ) (c : ℕ) → (text ++ encode_utf8_all cs) ++ encode_utf8 c ≡ text ++ encode_utf8_all (cs ++ c ∷ [])
encode_behind text cs c =
    append_assoc text (encode_utf8_all cs) (encode_utf8 c)
    ∙ ap (λ l. text ++ l) (sym (encodes-append cs (c ∷ []) ∙ ap (λ l. encode_utf8_all cs ++ l) (append-nil (encode_utf8 c))))

pub two_more : (text cs : List ℕ) (c : ℕ) → ((text ++ encode_utf8_all cs) ++ encode_utf8 92) ++ encode_utf8 c ≡ text ++ encode_utf8_all (cs ++ 92 ∷ c ∷ [])
two_more text cs c =
    ap (λ l. l ++ encode_utf8 c) (encode_behind text cs 92) ∙ encode_behind text (cs ++ 92 ∷ []) c ∙ ap (λ l. text ++ encode_utf8_all l) (append_assoc cs (92 ∷ []) (c ∷ []))
