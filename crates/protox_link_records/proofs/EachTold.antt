-- Something is told of each fault.
use Rattle.std.proofs.Common.{◌≡◌, ◌≢◌, ◌⊎◌, inl, inr, ℕ, Bool, List, [], ◌∷◌, ◌++◌, Option, Some, slice_get, subst, sym}
use Rattle.std.specs.Prelude.{ℤ, pos, Contains}
use Rattle.protox_descriptor.specs.declared.descriptor.FileDescriptorProto.{FileDescriptorProto}
use Rattle.protox_descriptor.specs.declared.tag.enum_.TheConstants as enum_tag
use Rattle.protox_descriptor.specs.declared.tag.enum_value.TheConstants as value_tag
use Rattle.protox_descriptor.specs.declared.tag.field.TheConstants as field_tag
use Rattle.protox_descriptor.specs.declared.tag.file.TheConstants as file_tag
use Rattle.protox_descriptor.specs.declared.tag.message.TheConstants as message_tag
use Rattle.protox_link.proofs.Lemmas.{cycle_stands}
use Rattle.protox_link.specs.Link.{IsOfCircle, NamesCircle}
use Rattle.protox_link.specs.Wrong.{BeginsOtherwise, Clashes, Clashing, DefaultIsNoValue, DefaultIsNoWord, EnumReservesAgain, FieldIsReserved, FieldsAreAlike, HasBadName, HasExtensions, HasNameOfOther, HasNoName, HasNoNumber, HasNoNumbers, HasNoValue, IsBackward, IsInNoRange, IsNoPackage, IsNotOfOptions, IsNotThere, IsReused, IsTaken, IsTooDeep, IsTooLong, MessageHasDefault, MessageReservesAgain, NamesItAgain, NamesNoFile, OfExtension, OfExtensions, OfExtensionsReserved, OfExtensionsTwice, OfImport, OfName, OfNumber, OfPackage, OfProto3, OfReserved, OfReservedName, OfReservedTwice, OfReused, OfUse, OfValues, OfValuesTwice, StandsForNoMessage, StandsForNoType, StandsForNothing, ValueIsReserved, ValuesAreAlike, WrongExtension, WrongImport, WrongInProto3, WrongLink, WrongName, WrongNumber, WrongPackage, WrongReserved, WrongUse}
use Rattle.protox_link_fault.specs.declared.LinkFault.{LinkFault}
use Rattle.protox_link_fault.specs.declared.LinkFaultKind.{LinkFaultKind}
use Rattle.protox_link_fault.specs.declared.LinkFaultKind.TheVariants as told
use Rattle.protox_link_fault.specs.declared.NumberFault.{NumberFault}
use Rattle.protox_link_fault.specs.declared.NumberFault.TheVariants as hows
use Rattle.protox_link_records.proofs.Leading.{Leads, declared_led, part_led, start}
use Rattle.protox_link_text.specs.Places.{Holder, OfEnum, OfFile, OfMessage, Place, place_from, place_of}
use Rattle.protox_link_text.specs.Told.{errors_of, or_not_defined, told_at, told_in}
use Rattle.protox_link_text.specs.declared.error.LinkError.{LinkError}
use Rattle.protox_numbers.specs.declared.clash.Clash.{Clash}
use Rattle.protox_symbols.specs.Symbols.{Table}
use Rattle.protox_symbols.specs.Things.{table_of}
use Rattle.protox_walk.specs.Declarations.{Path, file_declarations}
use Rattle.protox_walk.specs.Parts.{Declared, Described}

some : {X : Type 0} (x : X) (xs : List X) → x ∷ xs ≢ []
some x xs = λ none. cc

or_told : (name : List ℕ) (errors : List LinkError) → or_not_defined name errors ≢ []
or_told name [] = some _ _
or_told name (error ∷ more) = some _ _

module _ (files : List FileDescriptorProto) (t : Table) (sees packages : List Bool) (file : ℕ) where
  -- Something is told of a fault of this kind at a place.
  abbrev IsTold : Place → LinkFaultKind → Type 0
  IsTold place kind = told_at files t sees packages file place kind ≢ []

  import_told : (place : Place) (imports : List (List ℕ)) (i : ℕ) (kind : LinkFaultKind) → WrongImport files imports i kind → IsTold place kind
  import_told place imports i kind wrong = elim wrong as (λ i kind _. IsTold place kind) [
    | NamesNoFile i name is none ↦ some _ _
    | NamesItAgain i earlier g name is named before same ↦ some _ _
  ]

  package_told : (place : Place) (name : List ℕ) (kind : LinkFaultKind) → WrongPackage t name kind → IsTold place kind
  package_told place name kind wrong = elim wrong as (λ kind _. IsTold place kind) [
    | IsNotThere none ↦ some _ _
    | IsTooLong long ↦ some _ _
    | IsTooDeep short deep ↦ some _ _
    | IsNoPackage around n there has is other ↦ some _ _
  ]

  name_told : (place : Place) (d : Declared) (kind : LinkFaultKind) → WrongName t file d kind → IsTold place kind
  name_told place d kind wrong = elim wrong as (λ kind _. IsTold place kind) [
    | HasNoName is ↦ some _ _
    | HasBadName named not ↦ some _ _
    | HasNameOfOther n named is other ↦ some _ _
    | HasNoNumber named is ↦ some _ _
  ]

  use_told : (place : Place) (seen around : List Bool) (user : List ℕ) (part : Described) (tag : ℤ) (kind : LinkFaultKind) → WrongUse t seen around user part tag kind → IsTold place kind
  use_told place seen around user part tag kind wrong = elim wrong as (λ tag kind _. IsTold place kind) [
    | StandsForNothing tag wanted name uses is ↦ or_told name _
    | StandsForNoType tag name n uses is not ↦ some _ _
    | StandsForNoMessage tag name n uses is not ↦ some _ _
    | MessageHasDefault name default n has is same ↦ some _ _
    | DefaultIsNoWord name default n has is same not ↦ some _ _
    | DefaultIsNoValue name default n has is same word none ↦ some _ _
  ]

  reserved_told : (place : Place) (part : Described) (rest : Path) (kind : LinkFaultKind) → WrongReserved part rest kind → IsTold place kind
  reserved_told place part rest kind wrong = elim wrong as (λ part rest kind _. IsTold place kind) [
    | MessageReservesAgain m i earlier name is before same ↦ some _ _
    | EnumReservesAgain e i earlier name is before same ↦ some _ _
    | FieldIsReserved m i f is has ↦ some _ _
    | ValueIsReserved e i v is has ↦ some _ _
  ]

  proto3_told : (place : Place) (part : Described) (rest : Path) (kind : LinkFaultKind) → WrongInProto3 part rest kind → IsTold place kind
  proto3_told place part rest kind wrong = elim wrong as (λ part rest kind _. IsTold place kind) [
    | BeginsOtherwise e v is not ↦ some _ _
    | HasExtensions m range is ↦ some _ _
    | FieldsAreAlike m clash is ↦ some _ _
    | ValuesAreAlike e clash is two ↦ some _ _
  ]

  extension_told : (place : Place) (f : FileDescriptorProto) (path : Path) (kind : LinkFaultKind) (seen around : List Bool) → WrongExtension files seen around f path kind → IsTold place kind
  extension_told place f path kind seen around wrong = elim wrong as (λ path kind _. IsTold place kind) [
    | IsInNoRange e has none ↦ some _ _
    | IsReused c e earlier meets is other ↦ some _ _
    | IsNotOfOptions e has is not ↦ some _ _
  ]

  circle_told : (place : Place) (circle : List ℕ) (kind : LinkFaultKind) → NamesCircle circle kind → IsTold place kind
  circle_told place circle (told.ImportCycle files) named = some _ _
  circle_told place circle kind named = absurd named

  module _ (f : FileDescriptorProto) where
    -- what is told where a path leads
    clash_there : (path : Path) (holder : Holder) (rest : Path) (how : NumberFault) (with_ : ℕ) → Leads (start f) (OfFile f) path holder
        → ((scope : List ℕ) → IsTold (place_from scope holder rest) (told.Clash how with_)) → IsTold (place_of f (path ++ rest)) (told.Clash how with_)
    clash_there path holder rest how with_ led each = subst (λ (p : Place). IsTold p (told.Clash how with_)) (sym (led rest).1) (each (led rest).0)

    clash_told : (path : Path) (part : Described) (how : NumberFault) (tag : ℤ) (at : Path) (c : Clash) → Clashes part how tag at c
        → part_led (start f) (OfFile f) path part → IsTold (place_of f (path ++ (tag ∷ pos c.part ∷ at))) (told.Clash how c.«with»)
    clash_told path part how tag at c are = elim are as (λ part how tag at c _. part_led (start f) (OfFile f) path part → IsTold (place_of f (path ++ (tag ∷ pos c.part ∷ at))) (told.Clash how c.«with»)) [
      | OfReused m c meets ↦ λ led. clash_there path (OfMessage m) (message_tag.FIELD ∷ pos c.part ∷ field_tag.NUMBER ∷ []) hows.Reused c.«with» led (λ scope. some _ _)
      | OfReserved m c meets ↦ λ led. clash_there path (OfMessage m) (message_tag.FIELD ∷ pos c.part ∷ field_tag.NUMBER ∷ []) hows.Reserved c.«with» led (λ scope. some _ _)
      | OfExtensions m c meets ↦ λ led. clash_there path (OfMessage m) (message_tag.FIELD ∷ pos c.part ∷ field_tag.NUMBER ∷ []) hows.ForExtensions c.«with» led (λ scope. some _ _)
      | OfReservedTwice m c meets ↦ λ led. clash_there path (OfMessage m) (message_tag.RESERVED_RANGE ∷ pos c.part ∷ []) hows.ReservedTwice c.«with» led (λ scope. some _ _)
      | OfExtensionsTwice m c meets ↦ λ led. clash_there path (OfMessage m) (message_tag.EXTENSION_RANGE ∷ pos c.part ∷ []) hows.ExtensionsTwice c.«with» led (λ scope. some _ _)
      | OfExtensionsReserved m c meets ↦ λ led. clash_there path (OfMessage m) (message_tag.EXTENSION_RANGE ∷ pos c.part ∷ []) hows.ExtensionsReserved c.«with» led (λ scope. some _ _)
      | OfValues e c meets ↦ λ led. clash_there path (OfEnum e) (enum_tag.VALUE ∷ pos c.part ∷ value_tag.NUMBER ∷ []) hows.ValueReserved c.«with» led (λ scope. some _ _)
      | OfValuesTwice e c meets ↦ λ led. clash_there path (OfEnum e) (enum_tag.RESERVED_RANGE ∷ pos c.part ∷ []) hows.ValuesReservedTwice c.«with» led (λ scope. some _ _)
    ]

    number_told : (path : Path) (part : Described) (rest : Path) (kind : LinkFaultKind) → WrongNumber part rest kind
        → part_led (start f) (OfFile f) path part → IsTold (place_of f (path ++ rest)) kind
    number_told path part rest kind wrong = elim wrong as (λ part rest kind _. part_led (start f) (OfFile f) path part → IsTold (place_of f (path ++ rest)) kind) [
      | IsTaken field is ↦ λ led. some _ _
      | HasNoValue e is ↦ λ led. some _ _
      | HasNoNumbers m i range is empty ↦ λ led. some _ _
      | IsBackward e i range is empty ↦ λ led. some _ _
      | Clashing part how tag at c are ↦ clash_told path part how tag at c are
    ]

module _ (files : List FileDescriptorProto) (sees packages : List Bool) where
  abbrev t : Table
  t = table_of files

  abbrev IsToldOf : LinkFault → Type 0
  IsToldOf fault = errors_of files t sees packages fault ≢ []

  at_place : (f : FileDescriptorProto) (fault : LinkFault) → slice_get files fault.file ≡ Some f → told_at files t sees packages fault.file (place_of f fault.path) fault.kind ≢ [] → IsToldOf fault
  at_place f fault is there = subst (λ (o : Option FileDescriptorProto). told_in files t sees packages fault o ≢ []) (sym is) there

  -- the same, where it is told at any place
  in_file : (f : FileDescriptorProto) (n : ℕ) (path : Path) (kind : LinkFaultKind) → slice_get files n ≡ Some f → ((place : Place) → told_at files t sees packages n place kind ≢ [])
      → IsToldOf (record { file = n; path = path; kind = kind })
  in_file f n path kind is each = at_place f (record { file = n; path = path; kind = kind }) is (each (place_of f path))

  wrong_told : (fault : LinkFault) → WrongLink files fault → IsToldOf fault
  wrong_told fault wrong = elim wrong as (λ fault _. IsToldOf fault) [
    | OfImport n f i kind here wrong ↦ in_file f n (file_tag.DEPENDENCY ∷ pos i ∷ []) kind here (λ place. import_told files t sees packages n place f.dependency i kind wrong)
    | OfPackage n f name kind here is some wrong ↦ in_file f n (file_tag.PACKAGE ∷ []) kind here (λ place. package_told files t sees packages n place name kind wrong)
    | OfName n d kind in_it wrong ↦ in_file in_it.file n (d.path ++ message_tag.NAME ∷ []) kind in_it.is_there (λ place. name_told files t sees packages n place d kind wrong)
    | OfUse n d seen around tag kind in_it named by wrong ↦
        in_file in_it.file n (d.path ++ tag ∷ []) kind in_it.is_there (λ place. use_told files t sees packages n place seen around d.full_name d.part tag kind wrong)
    | OfNumber n d rest kind in_it named wrong ↦
        at_place in_it.file (record { file = n; path = d.path ++ rest; kind = kind }) in_it.is_there
        (number_told files t sees packages n in_it.file d.path d.part rest kind wrong (declared_led in_it.file d in_it.declares))
    | OfReservedName n d rest kind in_it named wrong ↦ in_file in_it.file n (d.path ++ rest) kind in_it.is_there (λ place. reserved_told files t sees packages n place d.part rest kind wrong)
    | OfProto3 n d rest kind in_it is wrong ↦ in_file in_it.file n (d.path ++ rest) kind in_it.is_there (λ place. proto3_told files t sees packages n place d.part rest kind wrong)
    | OfExtension n f seen around path kind here by wrong ↦ in_file f n path kind here (λ place. extension_told files t sees packages n place f path kind seen around wrong)
  ]

  cycle_told : (fault : LinkFault) → IsOfCircle files fault → IsToldOf fault
  cycle_told fault of_circle =
      let stands = cycle_stands files of_circle.circle fault of_circle.is of_circle.last of_circle.at_imports in
      at_place stands.file fault stands.is_there
      (circle_told files t sees packages fault.file (place_of stands.file fault.path) of_circle.circle fault.kind of_circle.named)

pub each_is_told : (files : List FileDescriptorProto) (fault : LinkFault) (sees packages : List Bool) → WrongLink files fault ⊎ IsOfCircle files fault → errors_of files (table_of files) sees packages fault ≢ []
each_is_told files fault sees packages (inl wrong) = wrong_told files sees packages fault wrong
each_is_told files fault sees packages (inr circle) = cycle_told files sees packages fault circle
