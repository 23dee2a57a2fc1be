-- Which histories a till stands for.
use Rattle.std.specs.Prelude.{◌≡◌, List}
use Rattle.turn_till.specs.declared.till.Till.{Till}
use Rattle.turn_till.specs.declared.till.TillKey.{TillKey}
use Rattle.turn_till.specs.declared.till.TillEntry.{TillEntry}
use Rattle.turn_till.specs.Rules.{cash_after, IsLegal}

abbrev pub key_of_till : Till → TillKey
key_of_till t = record { float = t.float }

pub record StandsFor (t : Till) (h : List TillEntry) : Type 0 where
  pub cash : t.cash ≡ cash_after t.float h
  pub legal : IsLegal t.float h
