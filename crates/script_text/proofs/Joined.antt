-- The text of words.
use Rattle.std.proofs.Common.{◌≡◌, ℕ, ◌+◌, ◌/◌, ◌%◌, ◌<◌, List, [], ◌∷◌, ◌++◌, length, map, take, get_or, refl, sym, ◌∙◌, ap, append_assoc, append-nil, arith}
use Rattle.std.specs.Prelude.{codes}
use Rattle.std.specs.Fmt.{decimal}
use Rattle.std.specs.List.{join_with_byte}
use Rattle.std.proofs.lemmas.Grind.{flat_map-append}
use Rattle.std.proofs.lemmas.List.{length-append, map_more}
use Rattle.far_io.proofs.Sends.{flat_map_take}
use Rattle.far_io.specs.Escapes.{escaped}
use Rattle.script_text.specs.Words.{joined, each_after, ended, IsPutBefore}
use Rattle.script_text.specs.Damages.{with_colons, low_digit, digest_text}

-- a word, and then the others with this byte before each
joined_each : (byte : ℕ) (word : List ℕ) (words : List (List ℕ)) → join_with_byte byte (word ∷ words) ≡ word ++ each_after byte words
joined_each byte word [] = sym (append-nil word)
joined_each byte word (next ∷ words) = ap (λ t. word ++ (byte ∷ t)) (joined_each byte next words)

pub ended_words : (piece word : List ℕ) (words : List (List ℕ)) → ((piece ++ word) ++ each_after 32 words) ++ 10 ∷ [] ≡ piece ++ ended (word ∷ words)
unfolding joined
ended_words piece word words =
    ap (λ t. t ++ 10 ∷ []) (append_assoc piece word (each_after 32 words) ∙ ap (λ t. piece ++ t) (sym (joined_each 32 word words)))
    ∙ append_assoc piece (joined (word ∷ words)) (10 ∷ [])

-- parts with colons
pub colons_each : (piece word : List ℕ) (words : List (List ℕ)) → (piece ++ word) ++ each_after 58 words ≡ piece ++ with_colons (word ∷ words)
unfolding with_colons
colons_each piece word words = append_assoc piece word (each_after 58 words) ∙ ap (λ t. piece ++ t) (sym (joined_each 58 word words))

joined_more : (byte : ℕ) (word last : List ℕ) (words : List (List ℕ)) → join_with_byte byte (word ∷ words) ++ byte ∷ last ≡ join_with_byte byte (word ∷ (words ++ last ∷ []))
joined_more byte word last [] = refl
joined_more byte word last (next ∷ words) =
    append_assoc word (byte ∷ join_with_byte byte (next ∷ words)) (byte ∷ last) ∙ ap (λ t. word ++ (byte ∷ t)) (joined_more byte next last words)

pub colons_more : (piece now word last : List ℕ) (words : List (List ℕ)) → now ≡ piece ++ with_colons (word ∷ words)
    → now ++ 58 ∷ last ≡ piece ++ with_colons (word ∷ (words ++ last ∷ []))
unfolding with_colons
colons_more piece now word last words is =
    ap (λ t. t ++ 58 ∷ last) is ∙ append_assoc piece (join_with_byte 58 (word ∷ words)) (58 ∷ last) ∙ ap (λ t. piece ++ t) (joined_more 58 word last words)

pub colons_one : (word : List ℕ) → with_colons (word ∷ []) ≡ word
unfolding with_colons
colons_one word = refl

-- a word and a colon before the parts
pub colons_before : (piece word : List ℕ) (parts : List (List ℕ)) → 0 < length parts → (piece ++ (word ++ 58 ∷ [])) ++ with_colons parts ≡ piece ++ with_colons (word ∷ parts)
unfolding with_colons
colons_before piece word [] some = absurd (omega arith)
colons_before piece word (part ∷ parts) some =
    let rest = join_with_byte 58 (part ∷ parts) in
    append_assoc piece (word ++ 58 ∷ []) rest ∙ ap (λ t. piece ++ t) (append_assoc word (58 ∷ []) rest)

-- a line that ends with an escaped text, as it was begun and goes on
pub ended_begun : (piece : List ℕ) (words : List (List ℕ)) (now bytes : List ℕ) (put : IsPutBefore piece words now bytes)
    → (put.word ++ 32 ∷ []) ++ (escaped bytes ++ 10 ∷ []) ≡ ended words
unfolding joined
ended_begun piece words now bytes put =
    let text = escaped bytes in
    append_assoc put.word (32 ∷ []) (text ++ 10 ∷ []) ∙ sym (append_assoc put.word (32 ∷ text) (10 ∷ [])) ∙ ap ended (sym put.words_are)

regroup : (a b c d e f : List ℕ) → ((((a ++ b) ++ c) ++ d) ++ e) ++ f ≡ a ++ (b ++ (c ++ (d ++ (e ++ f))))
regroup a b c d e f = simp append_assoc

two_words : (xs ys more : List ℕ) → (xs ++ (32 ∷ (ys ++ []))) ++ more ≡ xs ++ (32 ∷ (ys ++ more))
two_words xs ys more = append_assoc xs (32 ∷ (ys ++ [])) more ∙ ap (λ t. xs ++ (32 ∷ (t ++ more))) (append-nil ys)

four_words : (xs ys zs ws more : List ℕ) → (xs ++ (32 ∷ (ys ++ (32 ∷ (zs ++ (32 ∷ ws)))))) ++ more ≡ xs ++ (32 ∷ (ys ++ (32 ∷ (zs ++ (32 ∷ (ws ++ more))))))
four_words xs ys zs ws more =
    append_assoc xs (32 ∷ (ys ++ (32 ∷ (zs ++ (32 ∷ ws))))) more
    ∙ ap (λ t. xs ++ (32 ∷ t)) (append_assoc ys (32 ∷ (zs ++ (32 ∷ ws))) more ∙ ap (λ t. ys ++ (32 ∷ t)) (append_assoc zs (32 ∷ ws) more))

-- the line of a placed block
pub ended_placed : (piece path : List ℕ) (slice number index : ℕ)
    → ((((piece ++ 43 ∷ []) ++ each_after 32 (map decimal (slice ∷ number ∷ []))) ++ 32 ∷ []) ++ path) ++ ended ([] ∷ map decimal (index ∷ []))
    ≡ piece ++ ended ((43 ∷ []) ∷ decimal slice ∷ decimal number ∷ path ∷ decimal index ∷ [])
unfolding joined
ended_placed piece path slice number index =
    regroup piece (43 ∷ []) (32 ∷ (decimal slice ++ (32 ∷ (decimal number ++ [])))) (32 ∷ []) path ((32 ∷ decimal index) ++ 10 ∷ [])
    ∙ ap (λ t. piece ++ (43 ∷ 32 ∷ t)) (two_words (decimal slice) (decimal number) (32 ∷ (path ++ (32 ∷ (decimal index ++ 10 ∷ []))))
    ∙ sym (four_words (decimal slice) (decimal number) path (decimal index) (10 ∷ [])))

-- the line of a block that isn't as it was parked
pub ended_damage : (piece stamp found : List ℕ) → ((((piece ++ (codes "damaged" ++ 32 ∷ [])) ++ stamp) ++ 32 ∷ []) ++ found) ++ 10 ∷ [] ≡ piece ++ ended (codes "damaged" ∷ stamp ∷ found ∷ [])
unfolding joined
ended_damage piece stamp found =
    let word = codes "damaged" ++ 32 ∷ [] in
    regroup piece word stamp (32 ∷ []) found (10 ∷ []) ∙ ap (λ t. piece ++ (word ++ t)) (sym (append_assoc stamp (32 ∷ found) (10 ∷ [])))

-- numbers that were put so far
each_more : (byte : ℕ) (numbers : List ℕ) (i : ℕ) → i < length numbers
    → each_after byte (map decimal (take (i + 1) numbers)) ≡ each_after byte (map decimal (take i numbers)) ++ (byte ∷ decimal (get_or numbers i 0))
each_more byte numbers i here =
    let before = map decimal (take i numbers) in
    let last = decimal (get_or numbers i 0) in
    ap (each_after byte) (map_more decimal numbers i 0 here) ∙ flat_map-append (λ word. byte ∷ word) before (last ∷ [])
    ∙ ap (λ t. each_after byte before ++ t) (append-nil (byte ∷ last))

pub numbers_more : (byte : ℕ) (piece now grown numbers : List ℕ) (i : ℕ) → now ≡ piece ++ each_after byte (map decimal (take i numbers))
    → grown ≡ (now ++ byte ∷ []) ++ decimal (get_or numbers i 0) → i < length numbers → grown ≡ piece ++ each_after byte (map decimal (take (i + 1) numbers))
numbers_more byte piece now grown numbers i before grows here =
    let last = decimal (get_or numbers i 0) in
    let put = each_after byte (map decimal (take i numbers)) in
    grows ∙ ap (λ t. (t ++ byte ∷ []) ++ last) before ∙ append_assoc (piece ++ put) (byte ∷ []) last
    ∙ append_assoc piece put (byte ∷ last) ∙ ap (λ t. piece ++ t) (sym (each_more byte numbers i here))

-- digits that were put so far
pub digits_more : (piece now grown digest : List ℕ) (i high low : ℕ) → now ≡ piece ++ digest_text (take i digest) → grown ≡ (now ++ high ∷ []) ++ low ∷ []
    → high ≡ low_digit (get_or digest i 0 / 16) → low ≡ low_digit (get_or digest i 0 % 16) → i < length digest → grown ≡ piece ++ digest_text (take (i + 1) digest)
digits_more piece now grown digest i high low before grows first second here =
    let byte = get_or digest i 0 in
    let put = digest_text (take i digest) in
    grows ∙ append_assoc now (high ∷ []) (low ∷ []) ∙ ap (λ t. t ++ high ∷ low ∷ []) before ∙ append_assoc piece put (high ∷ low ∷ [])
    ∙ ap (λ t. piece ++ t) ((λ j. put ++ first j ∷ second j ∷ []) ∙ sym (flat_map_take (λ b. low_digit (b / 16) ∷ low_digit (b % 16) ∷ []) digest i 0 here))

pub grown : (now before more : List ℕ) → now ≡ before ++ more → length now ≡ length before + length more
grown now before more is = ap length is ∙ length-append before more
