-- What a writer holds.
use Rattle.std.specs.Prelude.{reverse}
use Rattle.protox_message_bytes.specs.declared.message.Writer.{Writer}
use Rattle.protox_message_bytes.specs.inner.Frames.{State}

-- the innermost of the messages that are open stands first
abbrev pub state_of : Writer → State
state_of writer = record { fields = writer.fields.items; frames = reverse writer.frames.items }
