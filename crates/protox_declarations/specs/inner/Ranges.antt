-- How the code reads and notes ranges, reserved and extensions statements.
use Rattle.std.specs.Prelude.{◌≡◌, List, [], ◌∷◌, map, Option, Some, None, option_map, ◌⊎◌, codes}
use Rattle.std.proofs.Common.{refl, inl, inr}
use Rattle.protox_ast.specs.Tree as tree
use Rattle.protox_ast.specs.Spelling as s
use Rattle.protox_ast.specs.Ast as ast
use Rattle.protox_ast.specs.CheckedNodes.{AReservedName}
use Rattle.protox_ast.specs.Places.{Place}
use Rattle.protox_ast.specs.declared.ast.Ident.{Ident}
use Rattle.protox_ast.specs.declared.ast.ReservedRangeEnd.{ReservedRangeEnd}
use Rattle.protox_ast.specs.declared.ast.ReservedRangeEnd.TheVariants as range_ends
use Rattle.protox_ast.specs.declared.ast.ReservedKind.TheVariants as reserved_kinds
use Rattle.protox_grammar.specs.Class.{only, among}
use Rattle.protox_grammar.specs.Rule as rule
use Rattle.protox_grammar.specs.Rule.{on_sum}
use Rattle.protox_grammar.specs.Rules as r
use Rattle.protox_grammar.specs.Told.{name_notes}
use Rattle.protox_grammar.specs.Token as token
use Rattle.protox_grammar.proofs.Lemmas.{Noting, Silent, both, choice, list_of, name-lie, named}
use Rattle.protox_grammar.proofs.Lemmas.{optional, renamed, seen, shown_by, sign, the, two}
use Rattle.protox_rows.specs.inner.Names.{int}
use Rattle.protox_rows.specs.inner.Strings.{checked_strings}
use Rattle.protox_declarations.specs.inner.Options.{list_if_any}

-- ---- ranges

-- the end of a range as the code keeps it
abbrev pub range_end_seen : tree.RangeEnd Place → ReservedRangeEnd
range_end_seen x = ast.range_end (Some x)

-- The end is what the code keeps of it: a number or `max`.
pub range_end-is : (x : Place × (tree.Int Place ⊎ Place)) → on_sum (λ i. range_ends.Int (ast.int i)) (λ (p : Place). range_ends.Max p.span) x.1 ≡ range_end_seen (r.to_range_end x)
range_end-is (m, inl i) = refl
range_end-is (m, inr p) = refl

-- "to" (int | "max")
unfoldable pub range_end : Silent r.range_end range_end_seen
unfolding r.range_end
range_end = renamed r.to_range_end range_end-is
    (seen (λ x. x.1) (both (the (codes "to")) (choice (among (token.an_integer ∷ token.minus ∷ [])) (seen range_ends.Int int) (seen (λ (p : Place). range_ends.Max p.span) (the (codes "max"))))))

-- the end of a range: what follows `to`, if there is a `to`
abbrev pub end_of : Option ReservedRangeEnd → ReservedRangeEnd
end_of None = range_ends.None
end_of (Some e) = e

-- The end is what the code keeps of it, also if there is none.
pub stop-is : (x : Option (tree.RangeEnd Place)) → end_of (option_map range_end_seen x) ≡ ast.range_end x
stop-is None = refl
stop-is (Some e) = refl

-- ("to" (int | "max"))?
unfoldable pub stop : Silent (rule.optional (only token.to) r.range_end) ast.range_end
stop = shown_by stop-is (seen end_of (optional (only token.to) range_end))

-- range = int ("to" (int | "max"))?
unfoldable pub range : Silent r.range ast.range
unfolding r.range
range = named _ (λ x. record { start = x.0; end = x.1 }) (λ x. refl) (both int stop)

-- "," range
unfoldable pub more_range : Silent (rule.seq (r.sign s.comma) r.range) (λ y. ast.range y.1)
more_range = seen (λ x. x.1) (both (sign s.comma) range)

-- range ("," range)*
unfoldable pub ranges : Silent r.ranges ast.ranges
unfolding r.ranges
ranges = renamed _ (λ x. refl) (list_of (only token.comma) range more_range)

-- ---- reserved names

-- string+ , read as a reserved name
unfoldable pub reserved_name : Noting (r.noted_strings AReservedName) ast.reserved_name
reserved_name = seen (λ x. record { value = ast.text_of x.0; span = x.1 }) (checked_strings AReservedName name_notes (λ x rest. refl) name-lie)

-- "," string+
unfoldable pub more_name : Noting (rule.seq (r.sign s.comma) (r.noted_strings AReservedName)) (λ y. ast.reserved_name y.1)
more_name = seen (λ x. x.1) (both (sign s.comma) reserved_name)

-- reserved names as the code keeps them
abbrev pub names_seen : tree.Names Place → List Ident
names_seen x = ast.reserved_name x.first ∷ map (λ y. ast.reserved_name y.1) x.others

-- string+ ("," string+)*
unfoldable pub names : Noting r.names names_seen
unfolding r.names
names = renamed _ (λ x. refl) (list_of (only token.comma) reserved_name more_name)

-- ---- statements

-- the ranges or the names of a reserved statement
unfoldable pub reserved_kind : Noting r.reserved_kind ast.reserved_kind
unfolding r.reserved_kind
reserved_kind = renamed r.to_reserved_kind (two _ _ (λ x. refl) (λ x. refl)) (choice (among (token.an_integer ∷ token.minus ∷ [])) (seen reserved_kinds.Ranges ranges) (seen reserved_kinds.Names names))

-- reserved = "reserved" (ranges | names) ";"
unfoldable pub reserved : Noting r.reserved ast.reserved
unfolding r.reserved
reserved = named _ (λ x. record { kind = x.1.0; comments = ast.comments x.0 x.1.1; span = ast.join x.0.span x.1.1.span }) (λ x. refl) (both (the (codes "reserved")) (both reserved_kind (sign s.semicolon)))

-- extensions = "extensions" ranges list? ";"
unfoldable pub extensions : Noting r.extensions ast.extensions
unfolding r.extensions
extensions = named _ (λ (keyword, (ranges, (options, end))). record { ranges = ranges; options = options; comments = ast.comments keyword end; span = ast.join keyword.span end.span }) (λ x. refl)
    (both (the (codes "extensions")) (both ranges (both list_if_any (sign s.semicolon))))
