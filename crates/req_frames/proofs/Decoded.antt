-- What decoding answers, from what reading the body answers.
use Rattle.std.proofs.Common.{◌≡◌, ℕ, ◌≤◌, List, drop, length, sym, ◌∙◌}
use Rattle.frame_fields.specs.declared.ends.ReadEnd.{ReadEnd}
use Rattle.frame_fields.specs.declared.ends.ReadEnd.TheVariants as reads
use Rattle.frame_fields.specs.Fields.{Field}
use Rattle.frame_fields.specs.FrameLayouts.{Table, tagged, IsBad}
use Rattle.frame_fields.specs.Reads.{Blames}
use Rattle.frame_fields.specs.Frames.{frame_of, IsFrameBody, IsFrame, IsBadFrame}
use Rattle.frame_fields.proofs.FieldLaws.{IsBytes}
use Rattle.frame_fields.proofs.FrameLaws.{bad_below, bad_frame, bad_frame_none, bad_place_one, frame_first, frame_one}
use Rattle.req_frames.specs.declared.decode.FrameEnd.{FrameEnd}
use Rattle.req_frames.specs.declared.decode.FrameEnd.TheVariants.{BadFrame, NoMemory}
use Rattle.req_frames.specs.Answers.{HasOneReading, IsEnd, IsEndOf}

module _ (table : Table) (frame : List ℕ) where
  pub end_below : (end : ReadEnd) → Blames (IsBad (tagged table) (drop 4 frame)) end
      → Blames (λ left. left ≤ length frame) end
  end_below (reads.Bad left) bad = bad_below table frame left bad
  end_below reads.NoMemory bad = tt

  pub decoded_end : (end : ReadEnd) (told : FrameEnd) → IsBytes frame → IsFrame frame
      → Blames (IsBad (tagged table) (drop 4 frame)) end → IsEndOf (length frame) end told
      → IsEnd (IsBadFrame table frame) told
  decoded_end (reads.Bad left) (BadFrame place) bytes is bad same = bad_frame table frame left place bytes is bad same
  decoded_end (reads.Bad left) NoMemory bytes is bad same = absurd same
  decoded_end reads.NoMemory (BadFrame place) bytes is bad same = absurd same
  decoded_end reads.NoMemory NoMemory bytes is bad same = tt

  -- where a place is bad, no other one is
  pub bad_end : (told : FrameEnd) (place : ℕ) → IsFrame frame → IsEnd (IsBadFrame table frame) told
      → IsBadFrame table frame place → IsEnd (λ other. other ≡ place) told
  bad_end (BadFrame other) place is bad also = bad_place_one table frame other place is bad also
  bad_end NoMemory place is bad also = tt

  module _ {X : Type 0} (fields : X → List Field) where
    pub only_one : ((x y : X) → fields x ≡ fields y → x ≡ y) → (y x : X)
        → (frame ≡ frame_of (fields y)) × IsFrameBody table (fields y) → IsFrameBody table (fields x)
        → frame ≡ frame_of (fields x) → y ≡ x
    only_one one y x is fits same = one y x (frame_one table (fields y) (fields x) is.1 fits (sym is.0 ∙ same))

    pub only_none : (told : FrameEnd) (x : X) → IsFrame frame → IsEnd (IsBadFrame table frame) told
        → IsFrameBody table (fields x) → frame ≡ frame_of (fields x) → IsEnd (λ place. ⊥) told
    only_none (BadFrame place) x is bad fits same = bad_frame_none table frame place (fields x) is bad fits same
    only_none NoMemory x is bad fits same = tt

    -- what is decoded has no bad place
    pub none_bad : (y : X) (place : ℕ) → IsFrame frame → (frame ≡ frame_of (fields y)) × IsFrameBody table (fields y)
        → IsBadFrame table frame place → ⊥
    none_bad y place is read bad = bad_frame_none table frame place (fields y) is bad read.1 read.0

-- where a value is told by its fields, its frame has one reading
pub one_reading : {X : Type 0} (table : Table) (fields : X → List Field) → ((x y : X) → fields x ≡ fields y → x ≡ y)
    → HasOneReading (λ x. frame_of (fields x)) (λ x. IsFrameBody table (fields x))
one_reading table fields told = λ one other more rest within also same.
    let first = frame_first table (fields one) (fields other) more rest within also same in
    (told one other first.0, first.1)
