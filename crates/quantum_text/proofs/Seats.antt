-- Words of seats: where the colon stands, and that a word spells one seat.
use Rattle.std.proofs.Common.{◌≡◌, ◌≢◌, ℕ, ◌+◌, ◌%◌, ◌^◌, ◌<◌, eqb, List, [], ◌∷◌, ◌++◌, length, map, Option, Some, None, refl, sym, ◌∙◌, ap, append-nil, length-append, arith}
use Rattle.std.specs.Prelude.{All, codes}
use Rattle.std.specs.Fmt.{decimal}
use Rattle.std.specs.List.{AllByRecursion, flat_map}
use Rattle.std.proofs.lemmas.Bool.{both_ways, eq-eqb}
use Rattle.std.proofs.lemmas.Fmt.{decimal_by_steps, decimal_injective}
use Rattle.std.proofs.lemmas.List.Elements.{All-head, All-tail, All-from_recursion}
use Rattle.far_io.specs.Words.{words_of, HasNoSpace}
use Rattle.far_io.proofs.WordLaws.{words_of-space, words_of-word, words_of_injective, decimal_one_word, no_space_by_test, HasNoSpace-append}
use Rattle.karma_rule.specs.declared.row.Share.{Share}
use Rattle.quantum_text.specs.Shares.{seat_word, seat_text, shares_text, HasNoColon, IsToldShare, IsSeat}

-- ---- colons
no_colon_push : (bytes : List ℕ) (byte : ℕ) → AllByRecursion (λ b. b ≢ 58) bytes → byte ≢ 58 → AllByRecursion (λ b. b ≢ 58) (bytes ++ byte ∷ [])
no_colon_push [] byte none other = (other, tt)
no_colon_push (b ∷ bs) byte none other = (none.0, no_colon_push bs byte none.1 other)

pub decimal_no_colon : (n : ℕ) → n < 2 ^ 64 → HasNoColon (decimal n)
decimal_no_colon n fits =
    All-from_recursion (λ byte. byte ≢ 58) (decimal n)
    (decimal_by_steps (λ n digits. AllByRecursion (λ byte. byte ≢ 58) digits) (λ n low. (λ e. absurd (omega arith), tt))
    (λ n digits high before. no_colon_push digits (48 + n % 10) before (λ e. absurd (omega arith))) n fits)

-- the first colon parts bytes in one way
pub one_colon : (xs ys zs ws : List ℕ) → HasNoColon xs → HasNoColon zs → xs ++ 58 ∷ ys ≡ zs ++ 58 ∷ ws → (xs ≡ zs) × (ys ≡ ws)
one_colon [] ys [] ws first second same = let after : ys ≡ ws = cc in (refl, after)
one_colon [] ys (z ∷ zs) ws first second same = let here : z ≡ 58 = cc in absurd (All-head (λ byte. byte ≢ 58) z zs second here)
one_colon (x ∷ xs) ys [] ws first second same = let here : x ≡ 58 = cc in absurd (All-head (λ byte. byte ≢ 58) x xs first here)
one_colon (x ∷ xs) ys (z ∷ zs) ws first second same =
    let head : x ≡ z = cc in
    let tails : xs ++ 58 ∷ ys ≡ zs ++ 58 ∷ ws = cc in
    let others = one_colon xs ys zs ws (All-tail (λ byte. byte ≢ 58) x xs first) (All-tail (λ byte. byte ≢ 58) z zs second) tails in
    (ap (λ b. b ∷ xs) head ∙ ap (λ bs. z ∷ bs) others.0, others.1)

pub has_colon : (xs ys : List ℕ) → HasNoColon (xs ++ 58 ∷ ys) → ⊥
has_colon [] ys none = All-head (λ byte. byte ≢ 58) 58 ys none refl
has_colon (x ∷ xs) ys none = has_colon xs ys (All-tail (λ byte. byte ≢ 58) x (xs ++ 58 ∷ ys) none)

abbrev pub first_byte : List ℕ → ℕ
first_byte [] = 0
first_byte (byte ∷ bytes) = byte

no_dash : (xs ys : List ℕ) → 45 ∷ [] ≡ xs ++ 58 ∷ ys → ⊥
no_dash [] ys same = both_ways (eqb (first_byte (45 ∷ [])) (first_byte (58 ∷ ys))) refl (eq-eqb (first_byte (45 ∷ [])) (first_byte (58 ∷ ys)) (ap first_byte same))
no_dash (x ∷ xs) ys same = absurd (omega (arith, ap length same, length-append xs (58 ∷ ys)))

-- ---- words
pub fair_fits : (share : Share) → IsToldShare share → share.fair < 2 ^ 64
fair_fits share is = omega (arith, is.fair)

pub floor_fits : (share : Share) → IsToldShare share → share.floor < 2 ^ 64
floor_fits share is = omega (arith, is.fair, is.floor)

pub seat_word_injective : (x y : Option Share) → IsSeat x → IsSeat y → seat_word x ≡ seat_word y → x ≡ y
seat_word_injective None None first second same = refl
seat_word_injective None (Some y) first second same = absurd (no_dash (decimal y.fair) (decimal y.floor) same)
seat_word_injective (Some x) None first second same = absurd (no_dash (decimal x.fair) (decimal x.floor) (sym same))
seat_word_injective (Some x) (Some y) first second same =
    let parts = one_colon (decimal x.fair) (decimal x.floor) (decimal y.fair) (decimal y.floor) (decimal_no_colon x.fair (fair_fits x first)) (decimal_no_colon y.fair (fair_fits y second)) same in
    let fair : x.fair ≡ y.fair = decimal_injective x.fair y.fair (fair_fits x first) (fair_fits y second) parts.0 in
    let floor : x.floor ≡ y.floor = decimal_injective x.floor y.floor (floor_fits x first) (floor_fits y second) parts.1 in
    let made = λ (f g : ℕ). let share : Share = record { fair = f; floor = g } in share in
    ap (λ f. Some (made f x.floor)) fair ∙ ap (λ g. Some (made y.fair g)) floor

seat_one_word : (seat : Option Share) → IsSeat seat → HasNoSpace (seat_word seat)
seat_one_word None is = (λ e. absurd (omega arith), tt)
seat_one_word (Some share) is =
    HasNoSpace-append (decimal share.fair) (58 ∷ decimal share.floor) (decimal_one_word share.fair (fair_fits share is)) (λ e. absurd (omega arith), decimal_one_word share.floor (floor_fits share is))

-- a word, and then a space and the word of each seat
words_of_seats : (word : List ℕ) (roster : List (Option Share)) → HasNoSpace word → All IsSeat roster → words_of (word ++ flat_map seat_text roster) ≡ word ∷ map seat_word roster
words_of_seats word [] one within = ap words_of (append-nil word) ∙ words_of-word word one
words_of_seats word (s ∷ ss) one within =
    words_of-space word (seat_word s ++ flat_map seat_text ss) one
    ∙ ap (λ words. word ∷ words) (words_of_seats (seat_word s) ss (seat_one_word s (All-head IsSeat s ss within)) (All-tail IsSeat s ss within))

-- ---- the line of a roster
pub shares_words : (roster : List (Option Share)) → All IsSeat roster → words_of (shares_text roster) ≡ codes "shares" ∷ map seat_word roster
unfolding shares_text
shares_words roster within = words_of_seats (codes "shares") roster (no_space_by_test (codes "shares") refl) within

pub shares_from_words : (line : List ℕ) (roster : List (Option Share)) → All IsSeat roster → words_of line ≡ codes "shares" ∷ map seat_word roster → line ≡ shares_text roster
shares_from_words line roster within same = words_of_injective line (shares_text roster) (same ∙ sym (shares_words roster within))

pub seats_injective : (xs ys : List (Option Share)) → All IsSeat xs → All IsSeat ys → map seat_word xs ≡ map seat_word ys → xs ≡ ys
seats_injective [] [] first second same = refl
seats_injective [] (y ∷ ys) first second same = cc
seats_injective (x ∷ xs) [] first second same = cc
seats_injective (x ∷ xs) (y ∷ ys) first second same =
    let heads : seat_word x ≡ seat_word y = cc in
    let tails : map seat_word xs ≡ map seat_word ys = cc in
    let head : x ≡ y = seat_word_injective x y (All-head IsSeat x xs first) (All-head IsSeat y ys second) heads in
    let others : xs ≡ ys = seats_injective xs ys (All-tail IsSeat x xs first) (All-tail IsSeat y ys second) tails in
    ap (λ s. s ∷ xs) head ∙ ap (λ ss. y ∷ ss) others

pub shares_text_injective : (xs ys : List (Option Share)) → All IsSeat xs → All IsSeat ys → shares_text xs ≡ shares_text ys → xs ≡ ys
shares_text_injective xs ys first second same =
    let words : codes "shares" ∷ map seat_word xs ≡ codes "shares" ∷ map seat_word ys = sym (shares_words xs first) ∙ ap words_of same ∙ shares_words ys second in
    seats_injective xs ys first second (cc)
