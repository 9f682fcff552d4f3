-- The steps through a message give what it holds.
use Rattle.std.proofs.Common.{◌≡◌, List, [], ◌∷◌, ◌++◌, sym, ap, ◌∙◌, append_assoc, append-nil}
use Rattle.protox_message_bytes.specs.Bytes.{Field, fields_of, in_order, message_field, value_field}
use Rattle.protox_message_bytes.specs.Parts.{Parts, NoMore, Value, Message, steps}
use Rattle.protox_message_bytes.specs.declared.entry.Entry.{Entry}
use Rattle.protox_message_bytes.specs.declared.entry.Entry.TheVariants as entry
use Rattle.protox_message_bytes.specs.inner.Frames.{all_taken, Frame, State}

-- What the steps through some parts tell stands behind what the innermost message holds.
told : (parts : Parts) (fields : List Field) (frames : List Frame) (rest : List Entry)
    → all_taken (record { fields = fields; frames = frames }) (steps parts ++ rest)
    ≡ all_taken (record { fields = fields ++ fields_of parts; frames = frames }) rest
told NoMore fields frames rest = ap (λ fs. all_taken (record { fields = fs; frames = frames }) rest) (sym (append-nil fields))
told (Value number packed value more) fields frames rest =
    let field = value_field number packed value in
    told more (fields ++ field ∷ []) frames rest
    ∙ ap (λ fs. all_taken (record { fields = fs; frames = frames }) rest) (append_assoc fields (field ∷ []) (fields_of more))
told (Message number group inside more) fields frames rest =
    let frame : Frame = record { number = number; group = group; outer = fields } in
    let field = message_field number group (in_order (fields_of inside)) in
    ap (λ es. all_taken (record { fields = []; frames = frame ∷ frames }) es) (append_assoc (steps inside) (entry.Close ∷ steps more) rest)
    ∙ told inside [] (frame ∷ frames) (entry.Close ∷ (steps more ++ rest))
    ∙ told more (fields ++ field ∷ []) frames rest
    ∙ ap (λ fs. all_taken (record { fields = fs; frames = frames }) rest) (append_assoc fields (field ∷ []) (fields_of more))

-- All steps, from a message that holds nothing.
pub all_told : (parts : Parts) (entries : List Entry) (fields : List Field) (frames : List Frame) → entries ≡ steps parts → fields ≡ [] → frames ≡ []
    → (all_taken (record { fields = fields; frames = frames }) entries).fields ≡ fields_of parts
all_told parts entries fields frames are none closed =
    ap (λ fs. (all_taken (record { fields = fs; frames = frames }) entries).fields) none
    ∙ ap (λ opens. (all_taken (record { fields = []; frames = opens }) entries).fields) closed
    ∙ ap (λ es. (all_taken (record { fields = []; frames = [] }) es).fields) (are ∙ sym (append-nil (steps parts)))
    ∙ ap (λ (s : State). s.fields) (told parts [] [] [])
