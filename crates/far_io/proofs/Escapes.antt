-- Laws of escaped texts.
use Rattle.std.proofs.Common.{◌≡◌, ◌≢◌, ℕ, ◌+◌, ◌*◌, ◌/◌, ◌%◌, ◌<◌, ◌≤◌, true, false, not, ◌&&◌, ltb, leb, eqb, List, [], ◌∷◌, ◌++◌, length, take, drop, Option, Some, None, refl, sym, ◌∙◌, ap, subst, append_assoc, append-nil, arith}
use Rattle.std.specs.Prelude.{All, IfSome, IfNone}
use Rattle.std.specs.List.{flat_map}
use Rattle.std.proofs.Math.Nat.{div-add-mod}
use Rattle.std.proofs.lemmas.Bool.{cond_both, and_parts, not-true, both_ways, eq-eqb, leb-true}
use Rattle.std.proofs.lemmas.Bool.Decides.{nat_tests}
use Rattle.std.proofs.lemmas.Grind.{flat_map-append}
use Rattle.std.proofs.Math.Seq.{take-add, take-append_seam}
use Rattle.std.proofs.lemmas.List.{length-append, length-drop}
use Rattle.std.proofs.lemmas.List.Elements.{All-head, All-tail}
use Rattle.far_io.specs.Words.{HasNoSpace}
use Rattle.far_io.specs.Escapes.{is_plain, hex_digit, escaped_byte, escaped, AreBytes, IsNoEscape}

pub escaped_flat : (bytes : List ℕ) → 0 < length bytes → flat_map escaped_byte bytes ≡ escaped bytes
unfolding escaped
escaped_flat [] some = absurd (omega arith)
escaped_flat (byte ∷ bytes) some = refl

pub escaped_none : escaped [] ≡ 37 ∷ []
unfolding escaped
escaped_none = refl

pub flat_more : (bytes : List ℕ) (byte : ℕ) → flat_map escaped_byte (bytes ++ byte ∷ []) ≡ flat_map escaped_byte bytes ++ escaped_byte byte
flat_more bytes byte = flat_map-append escaped_byte bytes (byte ∷ []) ∙ ap (λ t. flat_map escaped_byte bytes ++ t) (append-nil (escaped_byte byte))

-- a byte stands for itself or is three bytes
module _ (P : List ℕ → Type 0) where
  by_escape : (byte : ℕ) → (is_plain byte ≡ true → P (byte ∷ [])) → (is_plain byte ≡ false → P (37 ∷ hex_digit (byte / 16) ∷ hex_digit (byte % 16) ∷ []))
      → P (escaped_byte byte)
  by_escape byte plain other = cond_both (is_plain byte) (byte ∷ []) (37 ∷ hex_digit (byte / 16) ∷ hex_digit (byte % 16) ∷ []) P plain other

pub escape_some : (byte : ℕ) → 0 < length (escaped_byte byte)
escape_some byte = by_escape (λ e. 0 < length e) byte (λ _. omega arith) (λ _. omega arith)

plain_other : (byte : ℕ) → is_plain byte ≡ true → byte ≡ 37 → ⊥
plain_other byte plain same =
    let parts = and_parts (leb 33 byte && leb byte 126) (not (eqb byte 37)) plain in
    both_ways (eqb byte 37) (not-true (eqb byte 37) parts.1) (eq-eqb byte 37 same)

hex_digit_injective : (a b : ℕ) → hex_digit a ≡ hex_digit b → a ≡ b
hex_digit_injective a b same = grind (arith, nat_tests)

halves_injective : (a b : ℕ) → a / 16 ≡ b / 16 → a % 16 ≡ b % 16 → a ≡ b
halves_injective a b high low = sym (div-add-mod a 16) ∙ ap (λ n. 16 * n + a % 16) high ∙ ap (λ n. 16 * (b / 16) + n) low ∙ div-add-mod b 16

-- what begins with the spelling of one byte begins with that of no other
pub first_escape : (x y : ℕ) (xs ys : List ℕ) → escaped_byte x ++ xs ≡ escaped_byte y ++ ys → (x ≡ y) × (xs ≡ ys)
first_escape x y xs ys =
    by_escape (λ e. e ++ xs ≡ escaped_byte y ++ ys → (x ≡ y) × (xs ≡ ys)) x
    (λ plain. by_escape (λ e. x ∷ xs ≡ e ++ ys → (x ≡ y) × (xs ≡ ys)) y
    (λ also same. (cc, cc))
    (λ other same. absurd (plain_other x plain cc)))
    (λ other. by_escape (λ e. 37 ∷ hex_digit (x / 16) ∷ hex_digit (x % 16) ∷ xs ≡ e ++ ys → (x ≡ y) × (xs ≡ ys)) y
    (λ plain same. absurd (plain_other y plain cc))
    (λ also same. (halves_injective x y (hex_digit_injective (x / 16) (y / 16) cc) (hex_digit_injective (x % 16) (y % 16) cc), cc)))

escape_alone : (byte : ℕ) (rest : List ℕ) → escaped_byte byte ++ rest ≡ 37 ∷ [] → ⊥
escape_alone byte rest =
    by_escape (λ e. e ++ rest ≡ 37 ∷ [] → ⊥) byte (λ plain same. plain_other byte plain cc) (λ other same. cc)

escape_nothing : (byte : ℕ) (rest : List ℕ) → escaped_byte byte ++ rest ≡ [] → ⊥
escape_nothing byte rest = by_escape (λ e. e ++ rest ≡ [] → ⊥) byte (λ plain same. cc) (λ other same. cc)

-- where a text is the spelling of these bytes and then `rest`, each list that it is the spelling of begins with them
pub record GoesOn (xs ys rest : List ℕ) : Type 0 where
  pub more : List ℕ
  pub whole : ys ≡ xs ++ more
  pub spelled : rest ≡ flat_map escaped_byte more

goes_on : (xs ys rest : List ℕ) → flat_map escaped_byte xs ++ rest ≡ flat_map escaped_byte ys → GoesOn xs ys rest
goes_on [] ys rest same = record { more = ys; whole = refl; spelled = same }
goes_on (x ∷ xs) [] rest same = absurd (escape_nothing x (flat_map escaped_byte xs ++ rest) (sym (append_assoc (escaped_byte x) (flat_map escaped_byte xs) rest) ∙ same))
goes_on (x ∷ xs) (y ∷ ys) rest same =
    let first = first_escape x y (flat_map escaped_byte xs ++ rest) (flat_map escaped_byte ys) (sym (append_assoc (escaped_byte x) (flat_map escaped_byte xs) rest) ∙ same) in
    let next = goes_on xs ys rest first.1 in
    record { more = next.more; whole = ap (λ b. b ∷ ys) (sym first.0) ∙ ap (λ t. x ∷ t) next.whole; spelled = next.spelled }

nothing_more : (bytes : List ℕ) → [] ≡ flat_map escaped_byte bytes → bytes ≡ []
nothing_more [] same = refl
nothing_more (byte ∷ bytes) same = absurd (escape_nothing byte (flat_map escaped_byte bytes) (sym same))

-- each list has a spelling of its own
pub escaped_injective : (xs ys : List ℕ) → escaped xs ≡ escaped ys → xs ≡ ys
unfolding escaped
escaped_injective [] [] same = refl
escaped_injective [] (y ∷ ys) same = absurd (escape_alone y (flat_map escaped_byte ys) (sym same))
escaped_injective (x ∷ xs) [] same = absurd (escape_alone x (flat_map escaped_byte xs) same)
escaped_injective (x ∷ xs) (y ∷ ys) same =
    let next = goes_on (x ∷ xs) (y ∷ ys) [] (append-nil (flat_map escaped_byte (x ∷ xs)) ∙ same) in
    sym (next.whole ∙ ap (λ t. (x ∷ xs) ++ t) (nothing_more next.more next.spelled) ∙ append-nil (x ∷ xs))

pub empty_is_no_escape : (text : List ℕ) → length text ≡ 0 → IsNoEscape text
unfolding escaped
empty_is_no_escape [] empty = λ bytes are same. elim bytes as (λ b. [] ≡ escaped b → ⊥) [ [] ↦ λ h. cc | ◌∷◌ b bs ↦ λ h. escape_nothing b (flat_map escaped_byte bs) (sym h) ] same
empty_is_no_escape (b ∷ bs) empty = absurd (omega arith)

last_bytes : (P : ℕ → Type 0) (xs ys : List ℕ) → All P (xs ++ ys) → All P ys
last_bytes P [] ys all = all
last_bytes P (x ∷ xs) ys all = last_bytes P xs ys (All-tail P x (xs ++ ys) all)

-- a text whose bytes up to here are those of a spelling, and go on as no spelling does
pub stops_here : (text xs rest : List ℕ) → (text ≡ 37 ∷ [] → ⊥) → text ≡ flat_map escaped_byte xs ++ rest → 0 < length rest
    → ((byte : ℕ) → byte < 256 → (others : List ℕ) → rest ≢ escaped_byte byte ++ others) → IsNoEscape text
unfolding escaped
stops_here text xs rest other parted some bad [] are same = other same
stops_here text xs rest other parted some bad (y ∷ ys) are same =
    let next = goes_on xs (y ∷ ys) rest (sym parted ∙ same) in
    no_more next.more (last_bytes (λ b. b < 256) xs next.more (subst AreBytes next.whole are)) next.spelled
  where
    no_more : (more : List ℕ) → AreBytes more → rest ≡ flat_map escaped_byte more → ⊥
    no_more [] bytes spelled = let e : length rest ≡ 0 = ap length spelled in absurd (omega arith)
    no_more (z ∷ zs) bytes spelled = bad z (All-head (λ b. b < 256) z zs bytes) (flat_map escaped_byte zs) spelled

-- what is spelled is read back
pub read_back : (text : List ℕ) (found : Option (List ℕ)) → IfSome found (λ bytes. text ≡ escaped bytes) → IfNone found (IsNoEscape text)
    → (bytes : List ℕ) → AreBytes bytes → text ≡ escaped bytes → found ≡ Some bytes
read_back text None spelled none bytes are same = absurd (none bytes are same)
read_back text (Some found) spelled none bytes are same = ap Some (escaped_injective found bytes (sym spelled ∙ same))

-- one byte more was read
pub front_more : (text bytes tail : List ℕ) (at count byte : ℕ) → take at text ≡ flat_map escaped_byte bytes → drop at text ≡ escaped_byte byte ++ tail
    → length (escaped_byte byte) ≡ count → take (at + count) text ≡ flat_map escaped_byte (bytes ++ byte ∷ [])
front_more text bytes tail at count byte front next long =
    take-add at count text ∙ ap (λ t. t ++ take count (drop at text)) front
    ∙ ap (λ t. flat_map escaped_byte bytes ++ t) (ap (take count) next ∙ ap (λ n. take n (escaped_byte byte ++ tail)) (sym long) ∙ take-append_seam (escaped_byte byte) tail)
    ∙ sym (flat_more bytes byte)

pub front_within : (text tail : List ℕ) (at count byte : ℕ) → at ≤ length text → drop at text ≡ escaped_byte byte ++ tail → length (escaped_byte byte) ≡ count
    → (at + count ≤ length text) × (0 < count)
front_within text tail at count byte within next long =
    let grown : length (drop at text) ≡ length (escaped_byte byte ++ tail) = ap length next in
    let both = length-append (escaped_byte byte) tail in
    let dropped = length-drop at text in
    let some = escape_some byte in
    (omega arith, omega arith)

-- the whole text was read
pub whole_spelled : (text bytes : List ℕ) → 0 < length text → text ≡ flat_map escaped_byte bytes → text ≡ escaped bytes
whole_spelled text [] some whole = let e : length text ≡ 0 = ap length whole in absurd (omega arith)
whole_spelled text (b ∷ bs) some whole = whole ∙ escaped_flat (b ∷ bs) (omega arith)

pub escaped_empty : (bytes : List ℕ) → length bytes ≡ 0 → escaped bytes ≡ 37 ∷ []
escaped_empty [] empty = escaped_none
escaped_empty (b ∷ bs) empty = absurd (omega arith)

-- it has no space
spell_one_word : (byte : ℕ) (rest : List ℕ) → HasNoSpace rest → HasNoSpace (escaped_byte byte ++ rest)
spell_one_word byte rest none =
    by_escape (λ e. HasNoSpace (e ++ rest)) byte
    (λ plain. (λ space. plain_space byte plain space, none))
    (λ other. (λ e. absurd (omega arith), (digit_space (byte / 16), (digit_space (byte % 16), none))))
  where
    plain_space : (byte : ℕ) → is_plain byte ≡ true → byte ≡ 32 → ⊥
    plain_space byte plain space =
        let parts = and_parts (leb 33 byte && leb byte 126) (not (eqb byte 37)) plain in
        let low = leb-true 33 byte (and_parts (leb 33 byte) (leb byte 126) parts.0).0 in
        omega arith

    digit_space : (digit : ℕ) → hex_digit digit ≡ 32 → ⊥
    digit_space digit = cond_both (ltb digit 10) (48 + digit) (55 + digit) (λ h. h ≡ 32 → ⊥) (λ _ e. omega arith) (λ _ e. omega arith)

flat_one_word : (bytes : List ℕ) → HasNoSpace (flat_map escaped_byte bytes)
flat_one_word [] = tt
flat_one_word (byte ∷ bytes) = spell_one_word byte (flat_map escaped_byte bytes) (flat_one_word bytes)

pub escaped_one_word : (bytes : List ℕ) → HasNoSpace (escaped bytes)
unfolding escaped
escaped_one_word [] = (λ e. absurd (omega arith), tt)
escaped_one_word (byte ∷ bytes) = flat_one_word (byte ∷ bytes)
