-- The last part of a source: how it begins, and what it gives when it is read.
use Rattle.std.proofs.Common.{◌≡◌, ◌+◌, inl, inr, ℕ, suc, Bool, true, false, List, [], ◌∷◌, ◌++◌, length, Option, Some, None, option_map, Ok, refl, sym, ap, subst, ◌∙◌, append-nil, append_assoc, arith}
use Rattle.std.proofs.lemmas.Bool.{cases_Bool}
use Rattle.std.proofs.lemmas.List.{length-append}
use Rattle.std.specs.Prelude.{slice_index_or}
use Rattle.std.specs.Str.{IsUtf8}
use Rattle.std.specs.Global.{Vec}
use Rattle.std.specs.Option.{is_none}
use Rattle.protox_fault.specs.Faults.{Span, span_from}
use Rattle.protox_fault.specs.declared.error.ParseErrorKind.{ParseErrorKind}
use Rattle.protox_fault.specs.declared.error.SyntaxFailure.TheVariants.{Faults}
use Rattle.protox_lexeme.specs.Lexemes.{Lexeme}
use Rattle.protox_lexeme.specs.Shapes.{Row, Rows}
use Rattle.protox_lexeme.specs.Table.{Table, gaps_of, is_gap, rows_of, table_of}
use Rattle.protox_ast.proofs.Lemmas.{as-many, each-back, each-front}
use Rattle.protox_ast.specs.Accepted.{Fits}
use Rattle.protox_ast.specs.AstParts.{last_place, rows_span}
use Rattle.protox_ast.specs.Basics.{Each}
use Rattle.protox_ast.specs.Places.{Place, placed, placed_from}
use Rattle.protox_ast.specs.Spelling as s
use Rattle.protox_ast.specs.declared.ast.Comments.{Comments}
use Rattle.protox_ast.specs.declared.ast.File.{File}
use Rattle.protox_ast.specs.declared.ast.FileItem.{FileItem}
use Rattle.protox_ast.specs.declared.ast.Syntax.{Syntax}
use Rattle.protox_grammar.specs.Class.{all, in_set}
use Rattle.protox_grammar.specs.Reader.{◌>>=◌, gathered, head_in, star}
use Rattle.protox_grammar.specs.Told.{Notes, is_invalid}
use Rattle.protox_rows.proofs.Lemmas as turns
use Rattle.protox_rows.specs.inner.Notes.{AddsTo}
use Rattle.protox_rows.specs.declared.refused.Refused.{Refused}
use Rattle.protox_rows.specs.declared.refused.Refused.TheVariants.{OutOfMemory, At, TooDeep}
use Rattle.protox_syntax.proofs.AllFound.{all_read-all, leads-start}
use Rattle.protox_syntax.proofs.Growing.{place-held}
use Rattle.protox_syntax.proofs.Leading.{leads-end}
use Rattle.protox_syntax.proofs.Opening.{IsBehindToken, behind-token, none-is, some-is, some-read}
use Rattle.protox_syntax.proofs.ParsedTable.{AreTableFaults, faulty-parsed, no-faults-are, refused_statement-parsed}
use Rattle.protox_syntax.proofs.FirstLies.{lies-behind}
use Rattle.protox_syntax.proofs.Prefix.{GoesOn, before, goes-on}
use Rattle.protox_syntax.proofs.Reading.{built_file-of, whole-read}
use Rattle.protox_syntax.proofs.Recovering.{behind-syntax}
use Rattle.protox_syntax.proofs.Rows.{heads, row-first, rows-before}
use Rattle.protox_syntax.proofs.Shift.{entries-none, entries-shift, merged-same, rows-shift}
use Rattle.protox_syntax.proofs.Spans.{placed-span}
use Rattle.protox_syntax.proofs.Turns.{no-notes, statement-eats}
use Rattle.protox_syntax.specs.declared.parts.Part.{Part}
use Rattle.protox_syntax.specs.declared.parts.Progress.{Progress}
use Rattle.protox_syntax.specs.inner.Leading.{Leads}
use Rattle.protox_syntax.specs.inner.Merge.{merged_faults}
use Rattle.protox_syntax.specs.inner.OnWay.{IsBehindRefusal, IsOnWay, IsReadTo, IsUnrefused, table_in}
use Rattle.protox_syntax.specs.inner.ParsedTable.{AreAllOf, IsTableOf, RefusesTable, bare_span, built_file, syntax_or_default, syntax_place, total_of}
use Rattle.protox_syntax.specs.inner.Parts.{IsAllButSpan, IsBetween, IsFlawless, IsHeld, IsPartOf, IsReached, lexemes_from, place_in, places, rows, span_to_end, with_syntax}
use Rattle.protox_syntax.specs.inner.Recovery.{AreLast}
use Rattle.protox_syntax.specs.inner.SoFar.{begun}
use Rattle.protox_syntax.specs.inner.Statements.{add_statement, first_place, no_statements, notes_behind, statement, statements_at, statements_seen, syntax_if_any, syntax_seen}
use Rattle.protox_syntax.specs.inner.Whole.{all_notes, whole}
use Rattle.protox_syntax.specs.inner.Words as said

-- ---- a source that is one part

module _ (source : List ℕ) (part : Table) (is : part ≡ table_in source) (gone : List FileItem) (head : File) (reached : IsReached (begun None) gone head) (rest : Rows Place) (syntax : Option (Syntax × (Span × Comments)))
    (valid : head_in is_invalid (placed (table_in source)) ≡ false) (read : syntax_if_any.code (placed (table_in source)) ≡ Ok (syntax, rest)) (none : syntax_if_any.notes (placed (table_in source)) ≡ []) where
  abbrev t : Table
  t = table_in source

  abbrev now : File
  now = with_syntax head syntax

  held-now : (s : Option (Syntax × (Span × Comments))) → IsHeld (syntax_or_default s) no_statements gone (with_syntax head s)
  held-now None = reached.held
  held-now (Some x) = let h = reached.held in record { syntax_is = refl; package_is = h.package_is; imports = h.imports; options = h.options; items = h.items }

  span-now : (s : Option (Syntax × (Span × Comments))) → (with_syntax head s).syntax_span ≡ option_map syntax_place s
  span-now None = reached.syntax_span
  span-now (Some x) = refl

  place-now : place_in now ≡ None
  place-now = place-held (syntax_or_default syntax) no_statements gone now (held-now syntax)

  whole-now : whole (placed t) ≡ gathered add_statement no_statements (star (in_set all) statement.code rest) >>= λ x. Ok ((syntax, x.0), x.1)
  unfolding whole statements_at
  whole-now = rw read refl

  notes-now : notes_behind None rest ≡ all_notes (placed t)
  unfolding all_notes
  notes-now = rw (none, read) refl

  said-now : said.whole (placed t) ≡ said.statements rest
  unfolding said.whole
  said-now = rw read refl

  pub front-on : IsOnWay source part false rest [] gone now
  front-on = record {
    before = [];
    merged = λ more left. ap (λ (p : Table). merged_faults p.faults (total_of p) more left) (sym is);
    fewer = (let same = ap (λ (p : Table). length p.rows) is in omega (arith, same));
    leads = subst (λ q. Leads t [] q rest) (sym place-now) (leads-start t valid syntax rest none read);
    last = subst (λ (p : Table). AreLast p rest) (sym is) (behind-syntax (placed t) rest syntax read);
    read_to = record {
      syntax = syntax;
      statements = no_statements;
      whole_is = whole-now;
      notes_are = notes-now;
      said_is = said-now;
      syntax_span = span-now syntax;
      held = held-now syntax;
      lies = λ low size st. tt;
    };
  }

-- ---- the rest of a source

head-placed : (first : Bool) (xs : Rows Span) (gaps : _) → head_in is_invalid (placed_from first xs gaps) ≡ head_in is_invalid xs
head-placed first [] gaps = refl
head-placed first (r ∷ xs) gaps = refl

row-valid : (xs : List Lexeme) (more : Rows Span) → Each IsFlawless xs → head_in is_invalid more ≡ false → head_in is_invalid (rows_of xs ++ more) ≡ false
row-valid [] more h valid = valid
row-valid (x ∷ xs) more h valid =
    elim (cases_Bool (is_gap x.shape)) [
      | inl gap ↦ rw gap (row-valid xs more h.1 valid)
      | inr row ↦ rw row h.0.0
    ]

module _ (source : List ℕ) (part : Part) (progress : Progress) (gone : List FileItem) (head : File) (between : IsBetween source progress gone head) (p : IsPartOf (lexemes_from source progress.last) part) (ends : part.ends ≡ true) (some : progress.last ≡ None → ⊥) where
  abbrev k : IsBehindToken source progress between.f between.left
  k = behind-token source progress gone head between some

  inside : part.table ≡ table_of (k.last ∷ between.left)
  inside = p.table_is ∙ ap table_of (sym (append-nil p.inside) ∙ ap (λ l. p.inside ++ l) (sym (p.ended_here ends)) ∙ sym p.split ∙ k.from)

  -- the first row is that of the last token read
  pub first-row : (r : Row Place) × (placed part.table ≡ r ∷ places false between.left)
  first-row = (_, ap placed inside ∙ row-first true k.last between.left k.row)

  module _ (r : Row Place) (left : Rows Place) (rest : placed part.table ≡ r ∷ left) where
    left-is : left ≡ places false between.left
    left-is = (heads r first-row.0 left (places false between.left) (sym rest ∙ first-row.1)).1

    whole-is : placed (table_in source) ≡ s.spell between.f ++ left
    whole-is = k.whole ∙ ap (λ l. s.spell between.f ++ l) (sym left-is)

    table-is : (table_in source) ≡ table_of (k.front ++ k.last ∷ between.left)
    table-is = ap table_of k.all

    valid : head_in is_invalid (placed (table_in source)) ≡ false
    valid =
        ap (λ (v : Table). head_in is_invalid (placed v)) table-is
        ∙ head-placed true (rows_of (k.front ++ k.last ∷ between.left)) (gaps_of (k.front ++ k.last ∷ between.left))
        ∙ ap (head_in is_invalid) (rows-before k.front k.last between.left k.row)
        ∙ row-valid k.front _ (each-front IsFlawless k.front (k.last ∷ []) k.flawless) (each-back IsFlawless k.front (k.last ∷ []) k.flawless).0.0

    abbrev first : Option Span
    first = first_place (statements_seen between.f.statements)

    abbrev b : GoesOn (table_in source) between.f first left
    b = goes-on (table_in source) between.f first left between.reached.right whole-is (λ syntax statements begins. some-read source progress gone head between some syntax statements) valid

    abbrev count : ℕ
    count = length (rows_of k.front)

    many : length (table_in source).rows ≡ count + length part.table.rows
    many = ap (λ (v : Table). length v.rows) table-is ∙ rows-shift k.front (k.last ∷ between.left) ∙ ap (λ (v : Table). count + length v.rows) (sym inside)

    part-many : length part.table.rows ≡ suc (length left)
    part-many = sym (as-many true part.table.rows part.table.gaps) ∙ ap length rest

    merged : (more : Notes) (l : ℕ) → merged_faults (table_in source).faults (total_of (table_in source)) ((before (table_in source) between.f) ++ more) l ≡ merged_faults part.table.faults (total_of part.table) more l
    merged more l =
        let flawless = each-front IsFlawless k.front (k.last ∷ []) k.flawless in
        let both : (table_in source) ≡ table_of ((k.front ++ k.last ∷ []) ++ between.left) = table-is ∙ ap table_of (sym (append_assoc k.front (k.last ∷ []) between.left)) in
        let long : length (rows_of (k.front ++ k.last ∷ [])) ≡ count + 1 = ap length (rows-before k.front k.last [] k.row) ∙ length-append (rows_of k.front) _ in
        merged-same (table_in source) part.table count 1 many
        (λ i. ap (λ (v : Table). slice_index_or v.faults (count + i) []) table-is ∙ entries-shift k.front (k.last ∷ between.left) flawless i ∙ ap (λ (v : Table). slice_index_or v.faults i []) (sym inside))
        (λ i below. ap (λ (v : Table). slice_index_or v.faults i []) both ∙ entries-none (k.front ++ k.last ∷ []) between.left k.flawless i (omega (arith, below, long)))
        (before (table_in source) between.f) more l (length left) b.faultless b.above b.closed (omega (arith, many, part-many))

    pub rest-on : IsOnWay source part.table false left [] gone head
    rest-on =
        let reached = between.reached in
        let syntax = option_map syntax_seen between.f.syntax in
        let place : place_in head ≡ first = place-held (syntax_or_default syntax) (statements_seen between.f.statements) gone head reached.held in
        record {
          before = (before (table_in source) between.f);
          merged = merged;
          fewer = omega (arith, many);
          leads = subst (λ n. Leads (table_in source) n (place_in head) left) (sym (append-nil (before (table_in source) between.f))) (subst (λ q. Leads (table_in source) (before (table_in source) between.f) q left) (sym place) b.leads);
          last = (r ∷ [], rest);
          read_to = record {
            syntax = syntax;
            statements = statements_seen between.f.statements;
            whole_is = b.whole_is;
            notes_are = ap (λ n. n ++ notes_behind first left) (append-nil (before (table_in source) between.f)) ∙ sym b.notes_are;
            said_is = b.said_is;
            syntax_span = reached.syntax_span;
            held = reached.held;
            lies = lies-behind (table_in source) between.f first left between.reached.right whole-is;
          };
        }

    -- the span from the first token of the source to the last
    pub span-is : rows_span (length source) (rows source) ≡ span_to_end (length source) false part.table progress
    span-is =
        let size = length source in
        let all = placed-span size (table_in source).rows (table_in source).gaps in
        (λ i. span_from (sym k.start i) ((all ∙ ap (λ (v : Table). bare_span size v.rows) table-is ∙ ap (bare_span size) (rows-before k.front k.last between.left k.row)) i).end)
        ∙ ap (λ n. span_from progress.start n) (ends-alike size (rows_of k.front) _ (rows_of between.left) ∙ ap (λ (v : Span). v.end) (ap (bare_span size) (sym (rows-before [] k.last between.left k.row)) ∙ ap (λ (v : Table). bare_span size v.rows) (sym inside)))
      where
        last-alike : (span span2 : Span) (xs : Rows Span) (r : Row Span) (ys : Rows Span) → last_place (λ (x : Row Span). x.at) span (xs ++ r ∷ ys) ≡ last_place (λ (x : Row Span). x.at) span2 (r ∷ ys)
        last-alike span span2 [] r ys = refl
        last-alike span span2 (x ∷ xs) r ys = last-alike x.at span2 xs r ys

        ends-alike : (size : ℕ) (xs : Rows Span) (r : Row Span) (ys : Rows Span) → (bare_span size (xs ++ r ∷ ys)).end ≡ (bare_span size (r ∷ ys)).end
        ends-alike size [] r ys = refl
        ends-alike size (x ∷ xs) r ys = ap (λ (v : Span). v.end) (last-alike x.at x.at xs r ys)

-- ---- all rows are read

module _ (source : List ℕ) (u : IsUtf8 source) (short : Fits source) (part : Table) (refused : Bool) (notes : Notes) (gone : List FileItem) (head : File) (w : IsOnWay source part refused [] notes gone head) (total : ℕ) (errors : List ParseErrorKind) (is : total ≡ total_of part) (merged : errors ≡ merged_faults part.faults total notes 0) where
  tab : IsTableOf (length source) (table_in source)
  tab = (source, u, refl, refl, short)

  all-merged : errors ≡ merged_faults (table_in source).faults (total_of (table_in source)) (w.before ++ notes) 0
  all-merged = merged ∙ ap (λ n. merged_faults part.faults n notes 0) is ∙ sym (w.merged notes 0)

  all-found : AreAllOf (table_in source) errors
  all-found = all_read-all (table_in source) (w.before ++ notes) (total_of (table_in source)) errors refl (leads-end (table_in source) (w.before ++ notes) (place_in head) [] refl w.leads) all-merged

  read-all : (q : IsUnrefused source [] (w.before ++ notes) gone head) → whole (placed (table_in source)) ≡ Ok ((q.syntax, q.statements), [])
  read-all q = q.whole_is ∙ ap (λ r. r >>= λ x. Ok ((q.syntax, x.0), x.1)) (turns.done add_statement (in_set all) statement.code statement-eats (gathered add_statement q.statements (star (in_set all) statement.code [])) q.statements [] refl refl)

  noted-all : (q : IsUnrefused source [] (w.before ++ notes) gone head) → w.before ++ notes ≡ all_notes (placed (table_in source))
  noted-all q = no-notes (first_place q.statements) [] (w.before ++ notes) (w.before ++ notes) (all_notes (placed (table_in source))) [] refl q.notes_are

  adds-none : (e : Refused) → AddsTo e [] (all_notes (placed (table_in source))) (all_notes (placed (table_in source)))
  adds-none OutOfMemory = tt
  adds-none (At left expected) = refl
  adds-none (TooDeep left) = refl

  refused-so : (b : IsBehindRefusal source (w.before ++ notes) head) → AreTableFaults (table_in source) (length source) errors
  refused-so b =
      refused_statement-parsed (table_in source) (length source) tab b.refused b.first (all_notes (placed (table_in source))) (w.before ++ notes) (total_of (table_in source)) errors refl b.fails b.says (adds-none b.refused) b.lies b.recovers all-merged

  pub end-faulty : (errors ≡ [] → ⊥) → (v : Vec ParseErrorKind) → v.items ≡ errors → RefusesTable (table_in source) (length source) (Faults v)
  end-faulty some v same = by refused w.read_to
    where
      by : (refused : Bool) → IsReadTo refused source [] (w.before ++ notes) gone head → RefusesTable (table_in source) (length source) (Faults v)
      by false q =
          let j = faulty-parsed (table_in source) (length source) tab (q.syntax, q.statements) (w.before ++ notes) (total_of (table_in source)) errors refl (read-all q) (noted-all q) all-merged some in
          rw same (j.0, j.1, j.2, j.3, all-found)
      by true b = let j = refused-so b in rw same (j.0, j.1, j.2, j.3, all-found)

  pub end-right : errors ≡ [] → IsAllButSpan source gone head
  end-right none = by refused w.read_to
    where
      by : (refused : Bool) → IsReadTo refused source [] (w.before ++ notes) gone head → IsAllButSpan source gone head
      by true b = absurd ((refused-so b).0 none)
      by false q =
          let xs = rows source in
          let found = whole-read xs (q.syntax, q.statements) [] (read-all q) in
          let held = q.held in (
            found.0,
            (found.1, no-faults-are (table_in source) (length source) tab (w.before ++ notes) (total_of (table_in source)) errors refl (noted-all q) all-merged none),
            (λ i. record {
              span = rows_span (length source) xs;
              syntax = held.syntax_is i;
              syntax_span = q.syntax_span i;
              «package» = held.package_is i;
              imports = held.imports i;
              options = held.options i;
              items = sym held.items i;
            })
                ∙ ap (built_file (length source) xs) (sym found.2) ∙ built_file-of (length source) xs found.0 found.1,
          )

-- A part that is the whole source has its table.
pub whole-part : (source : List ℕ) (part : Part) (progress : Progress) → IsPartOf (lexemes_from source progress.last) part → part.ends ≡ true → progress.last ≡ None → part.table ≡ table_in source
whole-part source part progress p ends none = p.table_is ∙ ap table_of (sym (append-nil p.inside) ∙ ap (λ l. p.inside ++ l) (sym (p.ended_here ends)) ∙ sym p.split ∙ ap (lexemes_from source) none)

-- The span of the source, from its first token to its last.
pub span-all : (source : List ℕ) (part : Part) (progress : Progress) (gone : List FileItem) (head : File) → IsBetween source progress gone head → IsPartOf (lexemes_from source progress.last) part → part.ends ≡ true → part.begins ≡ is_none progress.last
    → span_to_end (length source) part.begins part.table progress ≡ rows_span (length source) (rows source)
span-all source part progress gone head between p ends begins = by part.begins refl
  where
    by : (v : Bool) → part.begins ≡ v → span_to_end (length source) part.begins part.table progress ≡ rows_span (length source) (rows source)
    by true is =
        ap (λ b. span_to_end (length source) b part.table progress) is
        ∙ ap (λ (t : Table). bare_span (length source) t.rows) (whole-part source part progress p ends (none-is progress.last (sym begins ∙ is)))
        ∙ sym (placed-span (length source) (table_in source).rows (table_in source).gaps)
    by false is =
        let some = some-is progress.last (sym begins ∙ is) in
        let row = first-row source part progress gone head between p ends some in
        ap (λ b. span_to_end (length source) b part.table progress) is ∙ sym (span-is source part progress gone head between p ends some row.0 (places false between.left) row.1)
