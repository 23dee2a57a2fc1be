-- The places of records: a record at a place, and why none is there.
use Rattle.std.proofs.Common.{◌≡◌, ℕ, ◌+◌, ◌-◌, ◌^◌, ◌<◌, ◌≤◌, List, ◌++◌, length, take, drop, sym, ap, ◌∙◌, take-append-drop, length-append, arith}
use Rattle.std.specs.Int.{w16, to_be_bytes}
use Rattle.std.proofs.lemmas.List.{length-drop, length-take-le, drop-drop}
use Rattle.table_block.specs.Records.{Record, record_size, spelling, NoRecord}
use Rattle.table_block.specs.Spots.{Begins}
use Rattle.table_block.proofs.Spelling.{length-spelling, key_count, value_count, parted, same_count}

-- both counts stand at a place
pub record HasCounts (bytes : List ℕ) (at k v : ℕ) : Type 0 where
  pub key : take 2 (drop at bytes) ≡ to_be_bytes w16 k
  pub value : take 2 (drop (at + 2) bytes) ≡ to_be_bytes w16 v
  pub key_fits : k < 2 ^ 16
  pub value_fits : v < 2 ^ 16

-- and so many bytes behind them
pub begins : (bytes : List ℕ) (at k v : ℕ) → HasCounts bytes at k v → at + 4 + k + v ≤ length bytes
    → Begins bytes at (record { at = at; value = at + 4 + k; end = at + 4 + k + v })
begins bytes at k v counts within =
    let tail = drop at bytes in
    let text = drop 4 tail in
    let long : length text ≡ length bytes - at - 4 = omega (arith, length-drop 4 tail, length-drop at bytes) in
    let key = take k text in
    let value = take v (drop k text) in
    let rest = drop v (drop k text) in
    let key_long : length key ≡ k = length-take-le k text (omega (arith, long)) in
    let value_long : length value ≡ v = length-take-le v (drop k text) (omega (arith, long, length-drop k text)) in
    let second : take 2 (drop 2 tail) ≡ to_be_bytes w16 v = ap (take 2) (drop-drop 2 at bytes) ∙ counts.value in
    let fronts : tail ≡ to_be_bytes w16 k ++ to_be_bytes w16 v ++ text =
    sym (take-append-drop 2 tail)
    ∙ (λ i. counts.key i ++ sym (take-append-drop 2 (drop 2 tail)) i)
    ∙ (λ i. to_be_bytes w16 k ++ (second i ++ drop-drop 2 2 tail i)) in
    let texts : text ≡ key ++ (value ++ rest) =
    sym (take-append-drop k text) ∙ ap (λ (t : List ℕ). key ++ t) (sym (take-append-drop v (drop k text))) in
    let value_is : at + 4 + k ≡ at + 4 + length key = omega arith in
    let end_is : at + 4 + k + v ≡ at + (4 + length key + length value) = omega arith in
    record {
      this = (key, value);
      rest = rest;
      fits = record { key = omega (arith, key_long, counts.key_fits); value = omega (arith, value_long, counts.value_fits) };
      parts = fronts ∙ (λ i. to_be_bytes w16 (sym key_long i) ++ to_be_bytes w16 (sym value_long i) ++ texts i) ∙ parted key value rest;
      spot_is = (λ i. record { at = at; value = value_is i; end = end_is i });
    }

-- as many bytes as are left from a place on
left : (bytes : List ℕ) (at : ℕ) (r : Record) (rest : List ℕ) → drop at bytes ≡ spelling r ++ rest → length bytes - at ≡ record_size r + length rest
left bytes at r rest same =
    sym (length-drop at bytes) ∙ ap length same ∙ length-append (spelling r) rest ∙ ap (λ (n : ℕ). n + length rest) (length-spelling r)

-- too few for both counts
pub no_counts : (bytes : List ℕ) (at : ℕ) → length bytes - at < 4 → NoRecord (drop at bytes)
no_counts bytes at few r rest fits same = omega (arith, left bytes at r rest same)

-- too few for the key and the value
pub no_texts : (bytes : List ℕ) (at k v : ℕ) → HasCounts bytes at k v → length bytes - at < 4 + k + v → NoRecord (drop at bytes)
no_texts bytes at k v counts few r rest fits same =
    let key : length r.0 ≡ k =
    same_count (length r.0) k fits.key counts.key_fits (sym (key_count r rest) ∙ ap (take 2) (sym same) ∙ counts.key) in
    let value : length r.1 ≡ v =
    same_count (length r.1) v fits.value counts.value_fits
    (sym (value_count r rest) ∙ ap (λ (t : List ℕ). take 2 (drop 2 t)) (sym same) ∙ ap (take 2) (drop-drop 2 at bytes) ∙ counts.value) in
    omega (arith, left bytes at r rest same)

-- as the two numbers were read
pub has_counts : (bytes : List ℕ) (at k v m n : ℕ) → take 2 (drop at bytes) ≡ to_be_bytes w16 m → take 2 (drop (at + 2) bytes) ≡ to_be_bytes w16 n
    → m < 2 ^ 16 → n < 2 ^ 16 → k ≡ m → v ≡ n → HasCounts bytes at k v
has_counts bytes at k v m n first second low high same also = record {
  key = first ∙ ap (to_be_bytes w16) (sym same);
  value = second ∙ ap (to_be_bytes w16) (sym also);
  key_fits = omega arith;
  value_fits = omega arith;
}
