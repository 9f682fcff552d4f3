-- Linking keeps the locations of files.
use Rattle.std.proofs.Common.{List, [], ◌∷◌, map, subst, sym}
use Rattle.std.specs.Prelude.{All}
use Rattle.std.proofs.lemmas.List.Elements.{All-cons, All-head, All-nil, All-tail}
use Rattle.protox_descriptor.specs.declared.descriptor.FileDescriptorProto.{FileDescriptorProto}
use Rattle.protox_generate.specs.File.{AreSorted}
use Rattle.protox_link.specs.Link.{AreKept}
use Rattle.protox_link_bytes.proofs.Sources.{sorted}
use Rattle.protox_link_records.specs.LinkPlaces.{IsSorted}
use Rattle.protox_linked.specs.Kept.{file_kept}

-- What a file keeps has its locations.
of_kept : (files : List FileDescriptorProto) → All IsSorted (map file_kept files) → All IsSorted files
of_kept [] h = All-nil IsSorted
of_kept (file ∷ files) h =
    All-cons IsSorted file files (All-head IsSorted (file_kept file) (map file_kept files) h) (of_kept files (All-tail IsSorted (file_kept file) (map file_kept files) h))

to_kept : (files : List FileDescriptorProto) → All IsSorted files → All IsSorted (map file_kept files)
to_kept [] h = All-nil IsSorted
to_kept (file ∷ files) h =
    All-cons IsSorted (file_kept file) (map file_kept files) (All-head IsSorted file files h) (to_kept files (All-tail IsSorted file files h))

pub kept_sorted : (files made : List FileDescriptorProto) → All AreSorted files → AreKept files made → All IsSorted made
kept_sorted files made h kept = of_kept made (subst (All IsSorted) (sym kept) (to_kept files (sorted files h)))
