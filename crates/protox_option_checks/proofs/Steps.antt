-- Marks of message sets, one after another.
use Rattle.std.proofs.Common.{◌≡◌, ℕ, ◌+◌, ◌<◌, ◌++◌, Bool, false, List, [], ◌∷◌, Option, ap, get_or, length, map, sym, take, ◌∙◌}
use Rattle.std.proofs.lemmas.List.{map_more}
use Rattle.std.proofs.lemmas.Option.{slice_get-get_or}
use Rattle.std.specs.Option.{option_and_then, option_map_or}
use Rattle.std.specs.Prelude.{slice_get}
use Rattle.protox_descriptor.specs.declared.descriptor.FileDescriptorProto.{FileDescriptorProto}
use Rattle.protox_option_checks.specs.Marks.{is_message_set, is_set_at}
use Rattle.protox_settings.specs.Fields.{message_at, message_numbered}
use Rattle.protox_symbols.specs.Symbols.{Table}
use Rattle.protox_symbols.specs.declared.thing.Thing.{Thing}

no_thing : Thing
no_thing = record { file = 0; path = [] }

-- the mark of what has a number
set_at : (files : List FileDescriptorProto) (table : Table) (n : ℕ) → n < length table.things
    → option_map_or is_message_set (message_numbered files table n) false ≡ is_set_at files (get_or table.things n no_thing)
set_at files table n below =
    ap (λ (found : Option Thing). option_map_or is_message_set (option_and_then (λ thing. option_and_then (λ (file : FileDescriptorProto). message_at file thing.path) (slice_get files thing.file)) found) false)
    (slice_get-get_or table.things n no_thing below)

-- one mark more
pub sets_more : (files : List FileDescriptorProto) (table : Table) (n : ℕ) (made : List Bool) → n < length table.things → made ≡ map (is_set_at files) (take n table.things)
    → made ++ option_map_or is_message_set (message_numbered files table n) false ∷ [] ≡ map (is_set_at files) (take (n + 1) table.things)
sets_more files table n made below so_far =
    ap (λ (marks : List Bool). marks ++ option_map_or is_message_set (message_numbered files table n) false ∷ []) so_far
    ∙ ap (λ (mark : Bool). map (is_set_at files) (take n table.things) ++ mark ∷ []) (set_at files table n below)
    ∙ sym (map_more (is_set_at files) table.things n no_thing below)
