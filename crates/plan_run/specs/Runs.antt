-- What a run of `plan` and one of `audit` came to.
use Rattle.std.specs.Prelude.{◌≡◌, ℕ, List, [], ◌∷◌, ◌++◌, Some, Contains}
use Rattle.std.specs.declared.option.Option.{Option}
use Rattle.far_io.specs.Adds.{Adds}
use Rattle.far_io.specs.Faults.{Faults, Rose, Follows}
use Rattle.far_io.specs.Left.{IsAtEnd}
use Rattle.far_io.specs.Lines.{lines_of}
use Rattle.karma_rule.specs.declared.shape.Shape.{Shape}
use Rattle.run_end.specs.Status.{IsWhole}
use Rattle.run_end.specs.Why.{End}
use Rattle.run_end.specs.declared.status.Status.{Status}
use Rattle.run_end.specs.declared.status.Status.TheVariants.{Done, BadLine, ReadFault, WriteFault, NoMemory, Spent, NotKarma}
use Rattle.line_run.specs.Runs.{Reading}
use Rattle.plan_run.specs.PlanText.{planned}
use Rattle.plan_run.specs.AuditText.{audited}
use Rattle.plan_run.specs.KarmaLog.{IsKarmaLog}
use Rattle.plan_run.specs.Writes.{WritesText, EndsAs, WritesPrefix, Seen}

abbrev pub plan_statuses : List Status
plan_statuses = Done ∷ BadLine ∷ ReadFault ∷ WriteFault ∷ NoMemory ∷ Spent ∷ []

abbrev pub audit_statuses : List Status
audit_statuses = Done ∷ BadLine ∷ ReadFault ∷ WriteFault ∷ NoMemory ∷ Spent ∷ NotKarma ∷ []

-- the sink took a log of Karma, which is what is planned for the input
pub record WritesLog {O : Type 0} (took : O → O → List ℕ → Type 0) (before now : O) (shape : Shape) (input : Option (List ℕ)) : Type 0 where
  pub text : List ℕ
  pub adds : Adds took before now text
  pub is_log : IsKarmaLog shape (lines_of text)
  pub of_input : (bytes : List ℕ) → input ≡ Some bytes → text ≡ (planned shape (lines_of bytes)).text

-- Where the input is told, what is written is a function of it, and so is the end, but for faults and memory.
pub record IsPlanned {O : Type 0} (read : Reading) (took : O → O → List ℕ → Type 0) (faults : O → Faults) (before now : O) (shape : Shape) (end : End) : Type 0 where
  pub listed : Contains plan_statuses end.status
  pub whole : IsWhole end.status → WritesText took before now read.input (planned shape)
  pub ends : IsWhole end.status → EndsAs read.input (planned shape) end
  pub part : WritesPrefix took before now read.input (planned shape)
  -- the lines seen before a fault are good, and the sink took their text
  pub seen : end.status ≡ ReadFault → Seen read.input read.left (λ lines. Adds took before now (planned shape lines).text × ((planned shape lines).end.status ≡ Done))
  pub log : end.status ≡ Done → WritesLog took before now shape read.input
  pub at_end : end.status ≡ Done → IsAtEnd read.left
  pub read_fault : end.status ≡ ReadFault → Rose read.faults read.faults_now
  pub write_fault : end.status ≡ WriteFault → Rose (faults before) (faults now)
  pub source : Follows read.faults read.faults_now
  pub sink : Follows (faults before) (faults now)

-- the same of an audit, which is done exactly where the lines of the input are a log of Karma
pub record IsAudited {O : Type 0} (read : Reading) (took : O → O → List ℕ → Type 0) (faults : O → Faults) (before now : O) (shape : Shape) (end : End) : Type 0 where
  pub listed : Contains audit_statuses end.status
  pub whole : IsWhole end.status → WritesText took before now read.input (audited shape)
  pub ends : IsWhole end.status → EndsAs read.input (audited shape) end
  pub part : WritesPrefix took before now read.input (audited shape)
  -- with some lines more, the lines seen before a fault are a log of Karma
  pub seen : end.status ≡ ReadFault → Seen read.input read.left (λ lines. (more : List (List ℕ)) × IsKarmaLog shape (lines ++ more))
  pub unsent : end.status ≡ ReadFault → now ≡ before
  pub accepts : end.status ≡ Done → (bytes : List ℕ) → read.input ≡ Some bytes → IsKarmaLog shape (lines_of bytes)
  pub accepted : IsWhole end.status → (bytes : List ℕ) → read.input ≡ Some bytes → IsKarmaLog shape (lines_of bytes) → end.status ≡ Done
  pub at_end : end.status ≡ Done → IsAtEnd read.left
  pub read_fault : end.status ≡ ReadFault → Rose read.faults read.faults_now
  pub write_fault : end.status ≡ WriteFault → Rose (faults before) (faults now)
  pub source : Follows read.faults read.faults_now
  pub sink : Follows (faults before) (faults now)
