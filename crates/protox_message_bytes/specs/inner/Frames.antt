-- Messages that are open, and how an entry changes what they hold.
use Rattle.std.specs.Prelude.{ℕ, Bool, List, [], ◌∷◌, ◌++◌}
use Rattle.protox_message_bytes.specs.Bytes.{Field, in_order, message_field, value_field}
use Rattle.protox_message_bytes.specs.declared.entry.Entry.{Entry}
use Rattle.protox_message_bytes.specs.declared.entry.Entry.TheVariants as entry

-- A message that is open: the field whose value it is, and what the message around it holds so far.
pub record Frame : Type 0 where
  pub number : ℕ
  pub group : Bool
  pub outer : List Field

-- What the innermost message holds so far, and the messages that are open, the innermost first.
pub record State : Type 0 where
  pub fields : List Field
  pub frames : List Frame

abbrev pub opened : ℕ → Bool → State → State
opened number group s = record { fields = []; frames = record { number = number; group = group; outer = s.fields } ∷ s.frames }

-- what the message around holds once the innermost message has ended
abbrev pub held : Frame → List Field → List Field
held frame inside = frame.outer ++ message_field frame.number frame.group (in_order inside) ∷ []

-- the innermost message ends; where none is open, nothing changes
abbrev pub closed : List Field → List Frame → State
closed inside [] = record { fields = inside; frames = [] }
closed inside (frame ∷ frames) = record { fields = held frame inside; frames = frames }

abbrev pub taken : State → Entry → State
taken s (entry.Value number packed value) = record { fields = s.fields ++ value_field number packed value ∷ []; frames = s.frames }
taken s (entry.Open number group) = opened number group s
taken s entry.Close = closed s.fields s.frames

abbrev pub all_taken : State → List Entry → State
all_taken s [] = s
all_taken s (e ∷ more) = all_taken (taken s e) more
