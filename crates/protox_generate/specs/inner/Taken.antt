-- What has been made of the items of a file that were taken, one by one.
use Rattle.std.specs.Prelude.{ℕ, ◌≡◌, List, [], flat_map, Option, Some, None}
use Rattle.protox_ast.specs.declared.ast.FileItem.{FileItem}
use Rattle.protox_ast.specs.declared.ast.Syntax.{Syntax}
use Rattle.protox_describe.specs.File.{item_enums, item_extensions, item_messages, item_services}
use Rattle.protox_generate.specs.declared.draft.FileDraft.{FileDraft}
use Rattle.protox_generate.specs.declared.draft.ItemPlaces.{ItemPlaces}
use Rattle.protox_locate.specs.inner.Draft.{IsDraft}
use Rattle.protox_places.specs.Lines.{numbers_at, starts}

-- These items of a file with this source have been located. Before the first one nothing is known of
-- the lines of the source.
abbrev pub ArePlaced : List ℕ → List FileItem → Option ItemPlaces → Type 0
ArePlaced source items None = items ≡ []
ArePlaced source items (Some places) = (places.lines ≡ starts 0 source) × IsDraft (numbers_at places.lines) items places.locations

-- These items of a file with this source and syntax have been located and described.
pub record IsTaken (source : List ℕ) (syntax : Syntax) (items : List FileItem) (draft : FileDraft) : Type 0 where
  pub of_source : draft.source.text.now ≡ source
  pub located : ArePlaced source items draft.places
  pub messages : draft.lists.message_type ≡ flat_map (item_messages syntax) items
  pub enums : draft.lists.enum_type ≡ flat_map item_enums items
  pub services : draft.lists.service ≡ flat_map item_services items
  pub extensions : draft.lists.extension ≡ flat_map (item_extensions syntax) items
