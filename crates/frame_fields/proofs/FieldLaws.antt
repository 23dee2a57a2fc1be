-- Numbers and texts: what is read was spelled so, and what is spelled so is read.
use Rattle.std.proofs.Common.{◌≡◌, ℕ, ◌+◌, ◌-◌, ◌^◌, ◌<◌, ◌≤◌, Bool, true, false, List, [], ◌∷◌, ◌++◌, length, get_or, take, drop, refl, sym, ap, subst, ◌∙◌, append_assoc, arith, inl, inr, Some, None}
use Rattle.std.specs.Prelude.{IsTrue}
use Rattle.std.specs.Int.{Width, w32, w64, byte_len, from_be_bytes, to_be_bytes}
use Rattle.std.proofs.lemmas.Bool.{cases_lt, both_ways}
use Rattle.std.proofs.lemmas.Slice.{first_rest}
use Rattle.std.proofs.lemmas.List.{take_at, drop_at, take-append-drop, length-append, length-take, get_or-take, get_or_past}
use Rattle.std.proofs.lemmas.Nat.{be_bytes_4, be_bytes_8, from_be_bytes-to_be_bytes_4, from_be_bytes-to_be_bytes_8}
use Rattle.std.specs.declared.option.Option.{Option}
use Rattle.far_words.specs.Paths.{is_part}
use Rattle.far_words.proofs.Grammar.{part_sized}
use Rattle.frame_fields.specs.Fields.{Field, Byte, Word, Long, Digest, Text, After, Shape, AByte, AWord, ALong, ADigest, AText, AnAfter, IsValue, IsPartOrNone, NoValue, after_text, spelling}

abbrev pub IsBytes : List ℕ → Type 0
IsBytes bytes = (i : ℕ) → get_or bytes i 0 < 256

IsBytes-take : (n : ℕ) (bytes : List ℕ) → IsBytes bytes → IsBytes (take n bytes)
IsBytes-take n bytes h i =
    elim (cases_lt i n) [
      | inl lt ↦ rw (get_or-take n bytes i 0 lt) (h i)
      | inr le ↦ rw (get_or_past (take n bytes) i 0 (omega (arith, length-take n bytes))) (omega arith)
    ]

-- numbers of a width are below a limit, and are so many bytes
record IsWide (w : Width) (limit : ℕ) : Type 0 where
  pub len : (n : ℕ) → length (to_be_bytes w n) ≡ byte_len w
  pub back : (bytes : List ℕ) → length bytes ≡ byte_len w → IsBytes bytes
      → to_be_bytes w (from_be_bytes w bytes) ≡ bytes
  pub again : (n : ℕ) → n < limit → from_be_bytes w (to_be_bytes w n) ≡ n
  pub below : (bytes : List ℕ) → IsBytes bytes → from_be_bytes w bytes < limit

wide32 : IsWide w32 (2 ^ 32)
wide32 = record {
  len = λ n. refl;
  back = λ bytes len fits. be_bytes_4 bytes _ len fits refl;
  again = λ n lt. from_be_bytes-to_be_bytes_4 n lt;
  below = λ bytes fits. omega (arith, fits 0, fits 1, fits 2, fits 3);
}

wide64 : IsWide w64 (2 ^ 64)
wide64 = record {
  len = λ n. refl;
  back = λ bytes len fits. be_bytes_8 bytes _ len fits refl;
  again = λ n lt. from_be_bytes-to_be_bytes_8 n lt;
  below = λ bytes fits. omega (arith, fits 0, fits 1, fits 2, fits 3, fits 4, fits 5, fits 6, fits 7);
}

-- the number that the first bytes spell
number_front : (w : Width) (limit : ℕ) → IsWide w limit → (bytes : List ℕ) → IsBytes bytes → byte_len w ≤ length bytes
    → (bytes ≡ to_be_bytes w (from_be_bytes w (take (byte_len w) bytes)) ++ drop (byte_len w) bytes)
    × (from_be_bytes w (take (byte_len w) bytes) < limit)
number_front w limit wide bytes fits long =
    let front = take (byte_len w) bytes in
    let are : IsBytes front = IsBytes-take (byte_len w) bytes fits in
    let same : to_be_bytes w (from_be_bytes w front) ≡ front =
    wide.back front (omega (arith, length-take (byte_len w) bytes)) are in (
      sym (take-append-drop (byte_len w) bytes)
          ∙ ap (λ (t : List ℕ). t ++ drop (byte_len w) bytes) (sym same),
      wide.below front are,
    )

-- where bytes of one length begin two texts, they are the same, and so is what follows
fronts_one : (s t a b : List ℕ) → length s ≡ length t → s ++ a ≡ t ++ b → (s ≡ t) × (a ≡ b)
fronts_one s t a b long same = (
  sym (take_at s a (length s) refl) ∙ ap (take (length s)) same ∙ take_at t b (length s) (sym long),
  sym (drop_at s a (length s) refl) ∙ ap (drop (length s)) same ∙ drop_at t b (length s) (sym long),
)

number_one : (w : Width) (limit : ℕ) → IsWide w limit → (m n : ℕ) (a b : List ℕ) → m < limit → n < limit
    → to_be_bytes w m ++ a ≡ to_be_bytes w n ++ b → (m ≡ n) × (a ≡ b)
number_one w limit wide m n a b low high same =
    let o = fronts_one (to_be_bytes w m) (to_be_bytes w n) a b (wide.len m ∙ sym (wide.len n)) same in
    (sym (wide.again m low) ∙ ap (from_be_bytes w) o.0 ∙ wide.again n high, o.1)

-- ---- a value of a shape is a field of its kind

of_byte : (test : ℕ → Bool) (field : Field) → IsValue (AByte test) field → (n : ℕ) × (field ≡ Byte n) × IsTrue (test n)
of_byte test (Byte n) value = (n, refl, value)
of_byte test (Word n) value = absurd value
of_byte test (Long n) value = absurd value
of_byte test (Digest bytes) value = absurd value
of_byte test (Text bytes) value = absurd value
of_byte test (After part) value = absurd value

of_word : (field : Field) → IsValue AWord field → (n : ℕ) × (field ≡ Word n) × (n < 2 ^ 32)
of_word (Byte n) value = absurd value
of_word (Word n) value = (n, refl, value)
of_word (Long n) value = absurd value
of_word (Digest bytes) value = absurd value
of_word (Text bytes) value = absurd value
of_word (After part) value = absurd value

of_long : (field : Field) → IsValue ALong field → (n : ℕ) × (field ≡ Long n) × (n < 2 ^ 64)
of_long (Byte n) value = absurd value
of_long (Word n) value = absurd value
of_long (Long n) value = (n, refl, value)
of_long (Digest bytes) value = absurd value
of_long (Text bytes) value = absurd value
of_long (After part) value = absurd value

of_digest : (field : Field) → IsValue ADigest field → (bytes : List ℕ) × (field ≡ Digest bytes) × (length bytes ≡ 32)
of_digest (Byte n) value = absurd value
of_digest (Word n) value = absurd value
of_digest (Long n) value = absurd value
of_digest (Digest bytes) value = (bytes, refl, value)
of_digest (Text bytes) value = absurd value
of_digest (After part) value = absurd value

of_text : (test : List ℕ → Bool) (field : Field) → IsValue (AText test) field
    → (text : List ℕ) × (field ≡ Text text) × (length text < 2 ^ 32) × IsTrue (test text)
of_text test (Byte n) value = absurd value
of_text test (Word n) value = absurd value
of_text test (Long n) value = absurd value
of_text test (Digest bytes) value = absurd value
of_text test (Text bytes) value = (bytes, refl, value.0, value.1)
of_text test (After part) value = absurd value

of_after : (field : Field) → IsValue AnAfter field → (part : Option (List ℕ)) × (field ≡ After part) × IsPartOrNone part
of_after (Byte n) value = absurd value
of_after (Word n) value = absurd value
of_after (Long n) value = absurd value
of_after (Digest bytes) value = absurd value
of_after (Text bytes) value = absurd value
of_after (After part) value = (part, refl, value)

-- ---- how long spellings are

pub length_byte : (n : ℕ) → length (spelling (Byte n)) ≡ 1
unfolding spelling
length_byte n = refl

pub length_word : (n : ℕ) → length (spelling (Word n)) ≡ 4
unfolding spelling
length_word n = wide32.len n

pub length_long : (n : ℕ) → length (spelling (Long n)) ≡ 8
unfolding spelling
length_long n = wide64.len n

pub length_text : (text : List ℕ) → length (spelling (Text text)) ≡ 4 + length text
unfolding spelling
length_text text =
    length-append (to_be_bytes w32 (length text)) text ∙ ap (λ (n : ℕ). n + length text) (wide32.len (length text))

-- a text is a count and so many bytes
pub text_spelled : (text : List ℕ) → spelling (Text text) ≡ spelling (Word (length text)) ++ text
unfolding spelling
text_spelled text = refl

-- behind a field there are no more bytes than before it
spelled_long : (bytes more : List ℕ) (field other : Field) → field ≡ other → bytes ≡ spelling field ++ more
    → length (spelling other) + length more ≡ length bytes
spelled_long bytes more field other is same =
    ap (λ (f : Field). length (spelling f) + length more) (sym is) ∙ sym (length-append (spelling field) more)
    ∙ sym (ap length same)

-- the same bytes, by the fields that the values are
both_are : (f g x y : Field) (a b : List ℕ) → f ≡ x → g ≡ y → spelling f ++ a ≡ spelling g ++ b
    → spelling x ++ a ≡ spelling y ++ b
both_are f g x y a b p q same =
    ap (λ (h : Field). spelling h ++ a) (sym p) ∙ same ∙ ap (λ (h : Field). spelling h ++ b) q

-- ---- one spelling of each field

byte_one : (m n : ℕ) (a b : List ℕ) → spelling (Byte m) ++ a ≡ spelling (Byte n) ++ b → (m ≡ n) × (a ≡ b)
unfolding spelling
byte_one m n a b same = (ap (λ (bytes : List ℕ). get_or bytes 0 0) same, ap (drop 1) same)

pub word_one : (m n : ℕ) (a b : List ℕ) → m < 2 ^ 32 → n < 2 ^ 32 → spelling (Word m) ++ a ≡ spelling (Word n) ++ b
    → (m ≡ n) × (a ≡ b)
unfolding spelling
word_one m n a b low high same = number_one w32 (2 ^ 32) wide32 m n a b low high same

long_one : (m n : ℕ) (a b : List ℕ) → m < 2 ^ 64 → n < 2 ^ 64 → spelling (Long m) ++ a ≡ spelling (Long n) ++ b
    → (m ≡ n) × (a ≡ b)
unfolding spelling
long_one m n a b low high same = number_one w64 (2 ^ 64) wide64 m n a b low high same

digest_one : (s t a b : List ℕ) → length s ≡ 32 → length t ≡ 32 → spelling (Digest s) ++ a ≡ spelling (Digest t) ++ b
    → (s ≡ t) × (a ≡ b)
unfolding spelling
digest_one s t a b p q same = fronts_one s t a b (p ∙ sym q) same

text_parted : (text more : List ℕ) → spelling (Text text) ++ more ≡ spelling (Word (length text)) ++ (text ++ more)
text_parted text more =
    ap (λ (bytes : List ℕ). bytes ++ more) (text_spelled text) ∙ append_assoc (spelling (Word (length text))) text more

pub text_one : (s t a b : List ℕ) → length s < 2 ^ 32 → length t < 2 ^ 32
    → spelling (Text s) ++ a ≡ spelling (Text t) ++ b → (s ≡ t) × (a ≡ b)
text_one s t a b low high same =
    let p = word_one (length s) (length t) (s ++ a) (t ++ b) low high (sym (text_parted s a) ∙ same
    ∙ text_parted t b) in
    fronts_one s t a b p.0 p.1

-- a part or none is spelled as its text
pub after_spelled : (part : Option (List ℕ)) → spelling (After part) ≡ spelling (Text (after_text part))
unfolding spelling
after_spelled part = refl

no_empty_part : (part : List ℕ) → IsTrue (is_part part) → [] ≡ part → ⊥
no_empty_part part is empty =
    let some = (part_sized part is).some_byte in
    let none : 0 ≡ length part = ap length empty in
    omega (arith, some, none)

-- and by its text it is told
after_told : (p q : Option (List ℕ)) → IsPartOrNone p → IsPartOrNone q → after_text p ≡ after_text q → p ≡ q
after_told None None is also same = refl
after_told None (Some part) is also same = absurd (no_empty_part part also same)
after_told (Some part) None is also same = absurd (no_empty_part part is (sym same))
after_told (Some part) (Some other) is also same = ap (λ (t : List ℕ). Some t) same

pub after_short : (part : Option (List ℕ)) → IsPartOrNone part → length (after_text part) < 2 ^ 32
after_short None is = omega arith
after_short (Some part) is = omega (arith, (part_sized part is).at_most_32)

after_one : (p q : Option (List ℕ)) (a b : List ℕ) → IsPartOrNone p → IsPartOrNone q
    → spelling (After p) ++ a ≡ spelling (After q) ++ b → (p ≡ q) × (a ≡ b)
unfolding spelling
after_one p q a b is also same =
    let o = text_one (after_text p) (after_text q) a b (after_short p is) (after_short q also) same in
    (after_told p q is also o.0, o.1)

-- at the front of bytes stands at most one value of a shape
pub value_one : (shape : Shape) (f g : Field) (a b : List ℕ) → IsValue shape f → IsValue shape g
    → spelling f ++ a ≡ spelling g ++ b → (f ≡ g) × (a ≡ b)
value_one (AByte test) f g a b p q same =
    let v = of_byte test f p in
    let w = of_byte test g q in
    let o = byte_one v.0 w.0 a b (both_are f g (Byte v.0) (Byte w.0) a b v.1 w.1 same) in
    (v.1 ∙ ap (λ (n : ℕ). Byte n) o.0 ∙ sym w.1, o.1)
value_one AWord f g a b p q same =
    let v = of_word f p in
    let w = of_word g q in
    let o = word_one v.0 w.0 a b v.2 w.2 (both_are f g (Word v.0) (Word w.0) a b v.1 w.1 same) in
    (v.1 ∙ ap (λ (n : ℕ). Word n) o.0 ∙ sym w.1, o.1)
value_one ALong f g a b p q same =
    let v = of_long f p in
    let w = of_long g q in
    let o = long_one v.0 w.0 a b v.2 w.2 (both_are f g (Long v.0) (Long w.0) a b v.1 w.1 same) in
    (v.1 ∙ ap (λ (n : ℕ). Long n) o.0 ∙ sym w.1, o.1)
value_one ADigest f g a b p q same =
    let v = of_digest f p in
    let w = of_digest g q in
    let o = digest_one v.0 w.0 a b v.2 w.2 (both_are f g (Digest v.0) (Digest w.0) a b v.1 w.1 same) in
    (v.1 ∙ ap (λ (t : List ℕ). Digest t) o.0 ∙ sym w.1, o.1)
value_one (AText test) f g a b p q same =
    let v = of_text test f p in
    let w = of_text test g q in
    let o = text_one v.0 w.0 a b v.2 w.2 (both_are f g (Text v.0) (Text w.0) a b v.1 w.1 same) in
    (v.1 ∙ ap (λ (t : List ℕ). Text t) o.0 ∙ sym w.1, o.1)
value_one AnAfter f g a b p q same =
    let v = of_after f p in
    let w = of_after g q in
    let o = after_one v.0 w.0 a b v.2 w.2 (both_are f g (After v.0) (After w.0) a b v.1 w.1 same) in
    (v.1 ∙ ap (λ (t : Option (List ℕ)). After t) o.0 ∙ sym w.1, o.1)

-- ---- bytes

pub byte_found : (byte : ℕ) (rest : List ℕ) → byte ∷ rest ≡ spelling (Byte byte) ++ rest
unfolding spelling
byte_found byte rest = refl

-- the first byte, and the bytes after it
pub byte_front : (bytes : List ℕ) → 1 ≤ length bytes
    → bytes ≡ spelling (Byte (get_or bytes 0 0)) ++ take (length bytes - 1) (drop 1 bytes)
unfolding spelling
byte_front bytes some = first_rest bytes 0 some

pub no_byte : (test : ℕ → Bool) (bytes : List ℕ) → length bytes < 1 → NoValue (AByte test) bytes
no_byte test bytes short field more value same =
    let v = of_byte test field value in
    let l = spelled_long bytes more field (Byte v.0) v.1 same in
    absurd (omega (arith, l, length_byte v.0))

-- where no byte stands, none of a test does
pub no_byte_within : (test : ℕ → Bool) (bytes : List ℕ) → NoValue (AByte (λ _. true)) bytes → NoValue (AByte test) bytes
no_byte_within test bytes none field more value same =
    let v = of_byte test field value in
    none (Byte v.0) more refl (same ∙ ap (λ (f : Field). spelling f ++ more) v.1)

-- a byte outside a test
pub not_byte : (test : ℕ → Bool) (byte : ℕ) (bytes rest : List ℕ) → bytes ≡ spelling (Byte byte) ++ rest
    → test byte ≡ false → NoValue (AByte test) bytes
not_byte test byte bytes rest begins outside field more value same =
    let v = of_byte test field value in
    let o = byte_one v.0 byte more rest (ap (λ (f : Field). spelling f ++ more) (sym v.1) ∙ sym same ∙ begins) in
    both_ways (test byte) outside (subst (λ (n : ℕ). IsTrue (test n)) o.0 v.2)

-- ---- numbers

pub word_found : (bytes : List ℕ) → IsBytes bytes → 4 ≤ length bytes
    → (bytes ≡ spelling (Word (from_be_bytes w32 (take 4 bytes))) ++ drop 4 bytes) ×
    (from_be_bytes w32 (take 4 bytes) < 2 ^ 32)
unfolding spelling
word_found bytes fits long = number_front w32 (2 ^ 32) wide32 bytes fits long

pub long_found : (bytes : List ℕ) → IsBytes bytes → 8 ≤ length bytes
    → (bytes ≡ spelling (Long (from_be_bytes w64 (take 8 bytes))) ++ drop 8 bytes) ×
    (from_be_bytes w64 (take 8 bytes) < 2 ^ 64)
unfolding spelling
long_found bytes fits long = number_front w64 (2 ^ 64) wide64 bytes fits long

pub no_word : (bytes : List ℕ) → length bytes < 4 → NoValue AWord bytes
no_word bytes short field more value same =
    let v = of_word field value in
    let l = spelled_long bytes more field (Word v.0) v.1 same in
    absurd (omega (arith, l, length_word v.0))

pub no_long : (bytes : List ℕ) → length bytes < 8 → NoValue ALong bytes
no_long bytes short field more value same =
    let v = of_long field value in
    let l = spelled_long bytes more field (Long v.0) v.1 same in
    absurd (omega (arith, l, length_long v.0))

-- ---- digests

pub digest_found : (bytes front rest : List ℕ) → front ≡ take 32 bytes → rest ≡ drop 32 bytes
    → bytes ≡ spelling (Digest front) ++ rest
unfolding spelling
digest_found bytes front rest begins ends = sym (take-append-drop 32 bytes) ∙ (λ i. sym begins i ++ sym ends i)

pub no_digest : (bytes : List ℕ) → length bytes < 32 → NoValue ADigest bytes
unfolding spelling
no_digest bytes short field more value same =
    let v = of_digest field value in
    let l = spelled_long bytes more field (Digest v.0) v.1 same in
    absurd (omega (arith, l, v.2))

-- ---- texts

-- the text that was cut off behind its count
pub text_found : (bytes rest : List ℕ) (len : ℕ) → bytes ≡ spelling (Word len) ++ rest → len ≤ length rest
    → bytes ≡ spelling (Text (take len rest)) ++ drop len rest
text_found bytes rest len same long =
    let k : length (take len rest) ≡ len = omega (arith, length-take len rest) in
    same ∙ ap (λ (t : List ℕ). spelling (Word len) ++ t) (sym (take-append-drop len rest))
    ∙ ap (λ (n : ℕ). spelling (Word n) ++ (take len rest ++ drop len rest)) (sym k)
    ∙ sym (text_parted (take len rest) (drop len rest))

-- where no count stands, no text does
pub no_count : (test : List ℕ → Bool) (bytes : List ℕ) → NoValue AWord bytes → NoValue (AText test) bytes
no_count test bytes none field more value same =
    let v = of_text test field value in
    none (Word (length v.0)) (v.0 ++ more) v.2 (same ∙ ap (λ (f : Field). spelling f ++ more) v.1
    ∙ text_parted v.0 more)

-- the count says more than is left
pub no_text : (test : List ℕ → Bool) (bytes rest : List ℕ) (len : ℕ) → bytes ≡ spelling (Word len) ++ rest
    → len < 2 ^ 32 → length rest < len → NoValue (AText test) bytes
no_text test bytes rest len found low short field more value same =
    let v = of_text test field value in
    let text : spelling (Word (length v.0)) ++ (v.0 ++ more) ≡ bytes =
    sym (text_parted v.0 more) ∙ ap (λ (f : Field). spelling f ++ more) (sym v.1) ∙ sym same in
    let p = word_one (length v.0) len (v.0 ++ more) rest v.2 low (text ∙ found) in
    let l : length v.0 + length more ≡ length rest = sym (length-append v.0 more) ∙ ap length p.1 in
    absurd (omega (arith, l, p.0))

-- a text outside a grammar
pub not_text : (test : List ℕ → Bool) (bytes text rest : List ℕ) → bytes ≡ spelling (Text text) ++ rest
    → length text < 2 ^ 32 → (IsTrue (test text) → ⊥) → NoValue (AText test) bytes
not_text test bytes text rest found low outside field more value same =
    let v = of_text test field value in
    let p = text_one v.0 text more rest v.2 low (ap (λ (f : Field). spelling f ++ more) (sym v.1) ∙ sym same ∙ found) in
    outside (subst (λ (t : List ℕ). IsTrue (test t)) p.0 v.3)

-- where no text stands, no part and no none does
pub no_after : (bytes : List ℕ) → NoValue (AText (λ _. true)) bytes → NoValue AnAfter bytes
no_after bytes none field more value same =
    let v = of_after field value in
    none (Text (after_text v.0)) more (after_short v.0 v.2, refl)
    (same ∙ ap (λ (f : Field). spelling f ++ more) v.1 ∙ ap (λ (t : List ℕ). t ++ more) (after_spelled v.0))

no_such_text : (part : Option (List ℕ)) (text : List ℕ) → IsPartOrNone part → after_text part ≡ text → (text ≡ [] → ⊥)
    → (IsTrue (is_part text) → ⊥) → ⊥
no_such_text None text is same some outside = some (sym same)
no_such_text (Some part) text is same some outside = outside (subst (λ (t : List ℕ). IsTrue (is_part t)) same is)

-- a text that isn't empty and is no part
pub not_after : (bytes text rest : List ℕ) → bytes ≡ spelling (Text text) ++ rest → length text < 2 ^ 32
    → (text ≡ [] → ⊥) → (IsTrue (is_part text) → ⊥) → NoValue AnAfter bytes
not_after bytes text rest found low some outside field more value same =
    let v = of_after field value in
    let spelled : spelling (Text (after_text v.0)) ++ more ≡ bytes =
    ap (λ (t : List ℕ). t ++ more) (sym (after_spelled v.0)) ∙ ap (λ (f : Field). spelling f ++ more) (sym v.1)
    ∙ sym same in
    let p = text_one (after_text v.0) text more rest (after_short v.0 v.2) low (spelled ∙ found) in
    no_such_text v.0 text v.2 p.0 some outside

-- what was found is a part, or none
pub after_found : (part : Option (List ℕ)) (bytes text rest : List ℕ) → bytes ≡ spelling (Text text) ++ rest
    → after_text part ≡ text → bytes ≡ spelling (After part) ++ rest
after_found part bytes text rest found is =
    found ∙ ap (λ (t : List ℕ). spelling (Text t) ++ rest) (sym is)
    ∙ ap (λ (t : List ℕ). t ++ rest) (sym (after_spelled part))
