-- What a tree of names answers, and which names it has afterwards.
use Rattle.std.specs.Prelude.{ℕ, max, nat_lt, nat_eq, not, Bool, true, false, ◌&&◌, ◌||◌, List, [], take, drop, length, is_some, if◌then◌else◌, Some, None}
use Rattle.std.specs.declared.option.Option.{Option}
use Rattle.std.specs.Option.{option_map, option_map_or, option_or}
use Rattle.std.specs.List as list
use Rattle.std.specs.List.{filter, filter_map, starts_with}
use Rattle.std.specs.FinMap.{find}
use Rattle.far_words.specs.Paths.{bytes_cmp, is_part, parent_of}
use Rattle.far_words.specs.declared.kind.Kind.{Kind}
use Rattle.far_words.specs.declared.kind.Kind.TheVariants.{Dir, File, Queue, Table}
use Rattle.lease_tree.specs.Under.{is_same, is_under, is_along, is_after, is_past, stem}
use Rattle.lease_tree.specs.Leases.{changed_where, find_last}
use Rattle.lease_tree.specs.Names.{Names, Leased}
use Rattle.lease_tree.specs.declared.tree.TreeEnd.{TreeEnd}
use Rattle.lease_tree.specs.declared.tree.TreeEnd.TheVariants.{Absent, WrongKind, Exists}
use Rattle.lease_tree.specs.declared.tree.TheConstants.{MOST_LISTED}

abbrev pub is_dir : Kind → Bool
is_dir Dir = true
is_dir File = false
is_dir Queue = false
is_dir Table = false

-- a renewal reaches a name, those under it and those that it is under
abbrev pub touches : List ℕ → List ℕ → Bool
touches path name = is_under path name || is_along path name

module _ {B : Type 0} where
  -- a name that was made
  abbrev pub made : ℕ → B → Leased B
  made end body = record { end = end; settled = false; body = body }

  -- why a path isn't a directory
  abbrev pub refused_dir : (B → Kind) → Names B → List ℕ → Option TreeEnd
  refused_dir kind names path = option_map_or (λ name. if is_dir (kind name.body) then None else Some WrongKind) (find bytes_cmp path names) (Some Absent)

  -- and why nothing stands directly under it. At the top there is no directory
  abbrev pub refused_under : (B → Kind) → Names B → Option (List ℕ) → Option TreeEnd
  refused_under kind names under = option_map_or (refused_dir kind names) under None

  -- why a path can't be made: its parent, and then that it is there
  abbrev pub refused_new : (B → Kind) → Names B → List ℕ → Option TreeEnd
  refused_new kind names path = option_or (refused_under kind names (parent_of path)) (if is_some (find bytes_cmp path names) then Some Exists else None)

  -- a later lease stays
  abbrev pub raised : ℕ → Leased B → Leased B
  raised end name = record { end = max name.end end; settled = name.settled; body = name.body }

  abbrev pub renewed : List ℕ → ℕ → Names B → Names B
  renewed path end names = changed_where (touches path) (raised end) names

  -- the end of its lease has nothing left to do
  abbrev pub settled : Leased B → Leased B
  settled name = record { end = name.end; settled = true; body = name.body }

  -- the greatest name at or under a path
  abbrev pub last_under : List ℕ → Names B → Option (List ℕ × Leased B)
  last_under path names = find_last (λ e. is_same path e.0 || is_under path e.0) names

  -- whether a lease has ended at a moment, and something is left to do
  abbrev pub has_ended : ℕ → Leased B → Bool
  has_ended now name = nat_lt name.end now && not name.settled

  abbrev pub next_ended : ℕ → Option (List ℕ) → Names B → Option (List ℕ)
  next_ended now after names = option_map (λ e. e.0) (list.find (λ e. is_past after e.0 && has_ended now e.1) names)

  abbrev pub next_after : Option (List ℕ) → Names B → Option (List ℕ)
  next_after after names = option_map (λ e. e.0) (list.find (λ e. is_past after e.0) names)

-- what names begin with that stand directly under a path, and at the top
abbrev pub base_of : Option (List ℕ) → List ℕ
base_of under = option_map_or stem under []

abbrev pub begins_with : List ℕ → List ℕ → Bool
begins_with base name = starts_with nat_eq name base

-- the part that is all that a name has after its beginning
abbrev pub part_after : List ℕ → List ℕ → Option (List ℕ)
part_after base name = if begins_with base name && is_part (drop (length base) name) then Some (drop (length base) name) else None

-- the first parts above another, as many as one list has
abbrev pub listed : {X : Type 0} → List ℕ → List ℕ → List (List ℕ × X) → List (List ℕ)
listed base after names = take MOST_LISTED (filter (is_after after) (filter_map (λ e. part_after base e.0) names))
