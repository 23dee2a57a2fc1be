-- Why a name isn't a directory, or can't be made.
use Rattle.std.proofs.Common.{◌≡◌, ℕ, Bool, true, false, cond, is_some, List, refl, sym, ap, ◌∙◌, Some, None}
use Rattle.std.specs.declared.option.Option.{Option}
use Rattle.std.specs.Option.{option_map, option_map_or, option_or}
use Rattle.std.specs.Map.{lookup}
use Rattle.std.specs.BTreeMap.{is_at}
use Rattle.std.specs.FinMap.{find}
use Rattle.far_words.specs.Paths.{bytes_cmp, parent_of}
use Rattle.far_words.specs.declared.kind.Kind.{Kind}
use Rattle.far_words.specs.declared.kind.Kind.TheVariants.{Dir, File, Queue, Table}
use Rattle.lease_tree.specs.Leases.{Ends}
use Rattle.lease_tree.specs.Names.{Names, Leased}
use Rattle.lease_tree.specs.Trees.{is_dir, refused_under, refused_new}
use Rattle.lease_tree.specs.declared.tree.TreeEnd.{TreeEnd}
use Rattle.lease_tree.specs.declared.tree.TreeEnd.TheVariants.{Absent, WrongKind, Exists}
use Rattle.lease_tree.proofs.Joins.{Are, found_body}

abbrev refusal_of : {B : Type 0} → (B → Kind) → Leased B → Option TreeEnd
refusal_of kind name = cond (is_dir (kind name.body)) None (Some WrongKind)

-- by the body that was found
pub refused_found : {B : Type 0} (kind : B → Kind) (o : Option (Leased B)) (body : B) → Some body ≡ option_map (λ name. name.body) o → option_map_or (refusal_of kind) o (Some Absent) ≡ cond (is_dir (kind body)) None (Some WrongKind)
refused_found kind None body is = absurd (let no : Some body ≡ None = is in cc)
refused_found kind (Some name) body is = ap (λ (o : Option _). option_map_or (λ b. cond (is_dir (kind b)) None (Some WrongKind)) o (Some Absent)) (sym is)

pub refused_missed : {B : Type 0} (kind : B → Kind) (o : Option (Leased B)) → None ≡ option_map (λ name. name.body) o → option_map_or (refusal_of kind) o (Some Absent) ≡ Some Absent
refused_missed kind None is = refl
refused_missed kind (Some name) is = absurd (let no : None ≡ Some name.body = is in cc)

pub not_dir : (kind : Kind) → (kind ≡ Dir → ⊥) → is_dir kind ≡ false
not_dir Dir other = absurd (other refl)
not_dir File other = refl
not_dir Queue other = refl
not_dir Table other = refl

some_mapped : {X Y : Type 0} (f : X → Y) (o : Option X) → is_some (option_map f o) ≡ is_some o
some_mapped f None = refl
some_mapped f (Some x) = refl

-- ---- whether a name is there

pub there : {B : Type 0} (q : List ℕ) (names : Names B) (bodies : List (List ℕ × B)) (ends : Ends) → Are names bodies ends → is_some (find bytes_cmp q names) ≡ is_some (lookup (is_at (bytes_cmp q)) bodies)
there q names bodies ends a = sym (ap is_some (found_body q names bodies ends a) ∙ some_mapped (λ name. name.body) (find bytes_cmp q names))

pub none_is : {X : Type 0} (o : Option X) → is_some o ≡ false → o ≡ None
none_is None is = refl
none_is (Some x) is = absurd (let no : true ≡ false = is in cc)

pub constant_is : {X Y : Type 0} (o : Option X) (y : Y) → is_some o ≡ true → option_map (λ _. y) o ≡ Some y
constant_is None y is = absurd (let no : false ≡ true = is in cc)
constant_is (Some x) y is = refl

not_exists : (o : Option TreeEnd) (b : Bool) → option_or o (cond b (Some Exists) None) ≡ None → b ≡ false
not_exists (Some end) b is = absurd (let no : Some end ≡ None = is in cc)
not_exists None true is = absurd (let no : Some Exists ≡ None = is in cc)
not_exists None false is = refl

-- a name that can be made isn't there
pub new_is_none : {B : Type 0} (kind : B → Kind) (names : Names B) (path : List ℕ) → refused_new kind names path ≡ None → find bytes_cmp path names ≡ None
new_is_none kind names path is = none_is (find bytes_cmp path names) (not_exists (refused_under kind names (parent_of path)) (is_some (find bytes_cmp path names)) is)
