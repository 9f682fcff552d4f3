-- What is said of rows holds of the names of files.
use Rattle.std.proofs.Common.{◌≡◌, inl, inr, ℕ, List, Option, length, map, refl, sym, subst}
use Rattle.std.proofs.lemmas.List.{length-map}
use Rattle.protox_descriptor.specs.declared.descriptor.FileDescriptorProto.{FileDescriptorProto}
use Rattle.protox_imports.specs.Names.{number_of}
use Rattle.protox_imports.specs.declared.row.FileImports.{FileImports}
use Rattle.protox_imports.specs.Imports.{Imports, ImportsPublicly}
use Rattle.protox_imports.specs.Rows.{ImportsIn, PassesOnIn, rows_of, row_by}
use Rattle.protox_imports.specs.Sees.{Passes, Sees}
use Rattle.protox_imports.specs.Sees.Passes.{Itself, Publicly}
use Rattle.protox_imports.specs.Order.{IsInOrder, IsCycle}
use Rattle.protox_imports.specs.Laws.{OrderedHasNoCycle, SeesTheLeast}
use Rattle.protox_imports.specs.Agree.{Agree}
use Rattle.protox_imports.specs.Answer.{IsAnswer}
use Rattle.protox_imports.specs.declared.sorted.Order.{Order}
use Rattle.protox_imports.specs.declared.sorted.Order.TheVariants.{Sorted, Cycle}
use Rattle.protox_imports.proofs.ByName.{rows_say, rows_found, importer_within}
use Rattle.protox_imports.proofs.Cycles.{no_cycle}
use Rattle.protox_imports.proofs.Seeing.{sees_least, passes_more}

-- Relations that say the same have the same orders, cycles and sights.
order_as : (R S : ℕ → ℕ → Type 0) (m n : ℕ) (order : List ℕ) → m ≡ n
    → ((f g : ℕ) → S f g → R f g) → IsInOrder R m order → IsInOrder S n order
order_as R S m n order e back o = subst (λ (k : ℕ). IsInOrder S k order) e (record {
  all = o.all;
  within = o.within;
  once = o.once;
  behind = λ p f g h i. o.behind p f g h (back f g i);
})

cycle_as : (R S : ℕ → ℕ → Type 0) (files : List ℕ) → ((f g : ℕ) → R f g → S f g)
    → IsCycle R files → IsCycle S files
cycle_as R S files there c = record {
  some = c.some;
  next = λ k f g e e'. there f g (c.next k f g e e');
  around = λ f g e e'. there f g (c.around f g e e');
}

passes_as : {R S : ℕ → ℕ → Type 0} {f h : ℕ} → ((f g : ℕ) → R f g → S f g) → Passes R f h
    → Passes S f h
passes_as there (Itself f) = Itself f
passes_as there (Publicly f g h r p) = Publicly f g h (there f g r) (passes_as there p)

sees_as : (R S P Q : ℕ → ℕ → Type 0) (f h : ℕ) → ((f g : ℕ) → R f g → S f g)
    → ((f g : ℕ) → P f g → Q f g) → Sees R P f h → Sees S Q f h
sees_as R S P Q f h there on k = elim k [
  | inl e ↦ inl e
  | inr x ↦ inr (x.0, there f (x.0) (x.1), passes_as on (x.2))
]

pub rows_agree : (set : List FileDescriptorProto) → Agree set (rows_of set)
rows_agree set =
    let rows = rows_of set in
    let say = rows_say set in
    let count = length-map set (row_by (number_of set)) in
    record {
      orders = λ order. (
        order_as (ImportsIn rows) (Imports set) (length rows) (length set) order count
            (λ f g. (say.imports f g).1),
        order_as (Imports set) (ImportsIn rows) (length set) (length rows) order (sym count)
            (λ f g. (say.imports f g).0),
      );
      cycles = λ files. (
        cycle_as (ImportsIn rows) (Imports set) files (λ f g. (say.imports f g).0),
        cycle_as (Imports set) (ImportsIn rows) files (λ f g. (say.imports f g).1),
      );
      sights = λ f h. (
        sees_as (ImportsIn rows) (Imports set) (PassesOnIn rows) (ImportsPublicly set) f h
            (λ f g. (say.imports f g).0) (λ f g. (say.passes f g).0),
        sees_as (Imports set) (ImportsIn rows) (ImportsPublicly set) (PassesOnIn rows) f h
            (λ f g. (say.imports f g).1) (λ f g. (say.passes f g).1),
      );
    }

pub ordered_has_no_cycle : (set : List FileDescriptorProto) → OrderedHasNoCycle set
ordered_has_no_cycle set order files o c =
    no_cycle (Imports set) (length set) order files (importer_within set) o c

-- What is imported publicly is imported.
imported_publicly : (set : List FileDescriptorProto) (f g : ℕ) → ImportsPublicly set f g
    → Imports set f g
imported_publicly set f g (k, i, name, listed, named, is) = (i, name, named, is)

pub sees_the_least : (set : List FileDescriptorProto) → SeesTheLeast set
sees_the_least set = record {
  itself = λ f. inl refl;
  imported = λ f g i. inr (g, i, Itself g);
  passed_on = λ f g h k p. elim k [
    | inl e ↦
        let p' : ImportsPublicly set f h = subst (λ (x : ℕ). ImportsPublicly set x h) (sym e) p in
        inr (h, imported_publicly set f h p', Itself h)
    | inr there ↦ inr (there.0, there.1, passes_more h (there.2) p)
  ];
  least = λ f h holds closed k. sees_least (Imports set) (ImportsPublicly set) f h holds closed k;
}

pub found_agree : (find : List ℕ → Option ℕ) (set : List FileDescriptorProto)
    (rows : List FileImports) → ((q : List ℕ) → find q ≡ number_of set q)
    → rows ≡ map (row_by find) set → Agree set rows
found_agree find set rows same e =
    subst (λ rs. Agree set rs) (sym (rows_found find set rows same e)) (rows_agree set)

-- An answer that holds of the rows holds of the names.
pub answer_agrees : (set : List FileDescriptorProto) (rows : List FileImports) (order : Order)
    → Agree set rows → IsAnswer (ImportsIn rows) (length rows) order
    → IsAnswer (Imports set) (length set) order
answer_agrees set rows (Sorted files) agree h = (agree.orders files.items).0 h
answer_agrees set rows (Cycle files) agree h = (agree.cycles files.items).0 h
