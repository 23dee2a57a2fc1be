-- Stamps of parked blocks, and what was found in their place.
use Rattle.std.specs.Prelude.{List, [], ◌∷◌}
use Rattle.far_words.specs.declared.stamp.Stamp.{Stamp}
use Rattle.far_words.specs.declared.stamp.ImageFault.{ImageFault}
use Rattle.far_words.specs.declared.stamp.ImageFault.TheVariants as faults
use Rattle.far_words.specs.declared.stamp.Found.{Found}
use Rattle.far_words.specs.declared.stamp.Found.TheVariants.{Absent, Broken, Longer, Other, Unfit}
use Rattle.frame_fields.specs.Fields.{Field, Byte, Word, Long, Digest}
use Rattle.frame_fields.specs.FrameLayouts.{Layout, Stop, Table, tagged}
use Rattle.frame_fields.specs.Parts.{a_byte, a_word, a_long, a_digest}

abbrev pub stamp : Layout
stamp = a_word (a_long (a_word (a_digest Stop)))

abbrev pub stamp_fields : Stamp → List Field
stamp_fields stamp = Word stamp.user ∷ Long stamp.block ∷ Word stamp.length ∷ Digest stamp.digest ∷ []

-- why bytes are no image: too few, other first bytes, another version, another length, another digest
abbrev pub fault_rows : Table
fault_rows =
    (0, a_word Stop)
    ∷ (1, Stop)
    ∷ (2, a_byte Stop)
    ∷ (3, a_word (a_word Stop))
    ∷ (4, a_digest (a_digest Stop))
    ∷ []

abbrev pub fault : Layout
fault = tagged fault_rows

abbrev pub fault_fields : ImageFault → List Field
fault_fields (faults.Short have) = Byte 0 ∷ Word have ∷ []
fault_fields faults.Magic = Byte 1 ∷ []
fault_fields (faults.Version found) = Byte 2 ∷ Byte found ∷ []
fault_fields (faults.Length said have) = Byte 3 ∷ Word said ∷ Word have ∷ []
fault_fields (faults.Digest kept found) = Byte 4 ∷ Digest kept ∷ Digest found ∷ []

-- nothing, no image, too many bytes, an image of another stamp, a content that isn't one of its kind
abbrev pub found_rows : Table
found_rows =
    (0, Stop)
    ∷ (1, fault)
    ∷ (2, a_long Stop)
    ∷ (3, stamp)
    ∷ (4, a_word Stop)
    ∷ []

abbrev pub found : Layout
found = tagged found_rows

abbrev pub found_fields : Found → List Field
found_fields Absent = Byte 0 ∷ []
found_fields (Broken fault) = Byte 1 ∷ fault_fields fault
found_fields (Longer len) = Byte 2 ∷ Long len ∷ []
found_fields (Other stamp) = Byte 3 ∷ stamp_fields stamp
found_fields (Unfit place) = Byte 4 ∷ Word place ∷ []
