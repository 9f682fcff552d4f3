-- Each comment of an accepted source stands in at most one field of one location, around that
-- location.
use Rattle.std.proofs.Common.{◌≡◌, ◌≢◌, ℕ, ◌+◌, ◌≤◌, Bool, true, false, if◌then◌else◌, ◌==◌, inl, inr, ◌⊎◌, List, [], ◌∷◌, ◌++◌, length, map, flat_map, Option, Some, None, refl, ap, sym, subst, ◌∙◌, arith}
use Rattle.std.specs.Str.{IsUtf8}
use Rattle.std.proofs.lemmas.Bool.Decides.{Decides-eqb}
use Rattle.std.proofs.lemmas.List.{append-nil}
use Rattle.protox_lexeme.proofs.Lemmas.{stand}
use Rattle.protox_lexeme.specs.Lexemes.{Lexeme, cut}
use Rattle.protox_lexeme.specs.Table.{rows_of, gaps_of, StandBetween}
use Rattle.protox_ast.proofs.Lemmas.{Stand, bare-placed}
use Rattle.protox_ast.specs.Accepted.{IsAccepted, IsFileOf}
use Rattle.protox_ast.specs.Ast as ast
use Rattle.protox_ast.specs.Basics.{join}
use Rattle.protox_ast.specs.Keywords.{Each}
use Rattle.protox_ast.specs.Places.{Place}
use Rattle.protox_ast.specs.Spelling as s
use Rattle.protox_ast.specs.Tree as t
use Rattle.protox_ast.specs.declared.ast.File.{File}
use Rattle.protox_descriptor.specs.declared.descriptor.FileDescriptorProto.{FileDescriptorProto}
use Rattle.protox_descriptor.specs.declared.descriptor.source_code_info.Location.{Location}
use Rattle.protox_locate.specs.Locations.{file_locations}
use Rattle.protox_places.specs.Lines.{span_numbers}
use Rattle.protox_generate.specs.Commented.{text_at, AreText, AreField, AreTexts, Sources, AreOf, AreOfEach, AreNeighbours, Rise, Leads, Trails, StandsAround, numbers_of, NoneTwice, CommentedOnce, AreCommentedOnce}
use Rattle.protox_generate.specs.File.{file_descriptor}
use Rattle.protox_generate.proofs.FilesTaking.{file-takes}
use Rattle.protox_generate.proofs.GapsWeighed.{of_text, of_texts, of_lexemes, all-within}
use Rattle.protox_generate.proofs.NumberedComments.{numbered, count, count-append, count-grows, is_empty, empty-grows, none-empty, count-once, from-start, count-none, text_or}
use Rattle.protox_generate.proofs.Once.{IsFound, found, place_in, with_numbers, make, numbers_at, rows-made, by_numbers, weigh-numbers, listed, false_texts, differ-none, none-false}
use Rattle.protox_generate.proofs.Ordered.{Known, disorder, in-order-all, known-first, known-second, starts, ends, braced}
use Rattle.protox_generate.proofs.TextsNatural.{made_row}
use Rattle.protox_generate.proofs.Taking.{Taken, nothing, ending, opening, SayEach, Weights, open_brace, weigh, cost}

-- ---- numbers that occur once

count-head : (k : ℕ) (b : Bool) (c : ℕ) → b ≡ true → (if b then 1 + c else c) ≡ 1 + c
count-head k b c h = ap (λ x. if x then 1 + c else c) h

count-tail : (b : Bool) (c : ℕ) → c ≤ (if b then 1 + c else c)
count-tail true c = omega arith
count-tail false c = omega arith

own-count : (k : ℕ) (ks : List ℕ) → count k (k ∷ ks) ≡ 1 + count k ks
own-count k ks = count-head k (k == k) (count k ks) ((Decides-eqb k k).1 refl)

count-zero : (k : ℕ) (ks : List ℕ) → count k ks ≤ 0 → Each (λ m. m ≢ k) ks
count-zero k [] h = tt
count-zero k (m ∷ ks) h = (λ e. absurd (omega (arith, h, own-count m ks, same e)), count-zero k ks (omega (arith, h, count-tail (m == k) (count k ks))))
  where
    same : m ≡ k → count k (m ∷ ks) ≡ count m (m ∷ ks)
    same e = ap (λ n. count n (m ∷ ks)) (sym e)

none-twice : (ns : List ℕ) → ((n : ℕ) → count n ns ≤ 1) → NoneTwice ns
none-twice [] h = tt
none-twice (k ∷ ks) h = (count-zero k ks (omega (arith, h k, own-count k ks)), none-twice ks (λ n. omega (arith, h n, count-tail (k == n) (count n ks))))

module _ (lexemes : List Lexeme) where
  -- ---- texts of comments

  abbrev OnlyComments : (ℕ → ℕ) → Type 0
  OnlyComments counted = (n : ℕ) → text_at lexemes n ≡ None → counted n ≤ 0

  text-at : (n : ℕ) (o : Option (List ℕ)) → text_at lexemes n ≡ o → (o ≡ None → 1 ≤ 0) → text_at lexemes n ≡ Some (text_or lexemes o)
  text-at n None is some = absurd (omega (arith, some refl))
  text-at n (Some text) is some = is

  text-made : (ns : List ℕ) → is_empty ns ≤ 0 → OnlyComments (λ n. count n ns) → AreText lexemes ns (make lexemes ns)
  text-made [] h only = absurd (omega (arith, h))
  text-made (n ∷ []) h only =
      text-at n (text_at lexemes n) refl (λ none. omega (arith, only n none, own-count n [])) ∙ ap Some (sym (append-nil (text_or lexemes (text_at lexemes n))))
  text-made (n ∷ (m ∷ ns)) h only = (
    text_or lexemes (text_at lexemes n),
    make lexemes (m ∷ ns),
    text-at n (text_at lexemes n) refl (λ none. omega (arith, only n none, own-count n (m ∷ ns))),
    text-made (m ∷ ns) (omega arith) (λ k none. omega (arith, only k none, count-tail (n == k) (count k (m ∷ ns)))),
    refl,
  )

  abbrev first_text : List (List ℕ) → List ℕ
  first_text [] = []
  first_text (text ∷ texts) = text

  abbrev others : List (List ℕ) → List (List ℕ)
  others [] = []
  others (text ∷ texts) = texts

  no-texts : (text : List ℕ) (texts : List (List ℕ)) → [] ≡ text ∷ texts → ⊥
  no-texts text texts e = subst (λ (xs : List (List ℕ)). elim xs as (λ _. Type 0) [ [] ↦ Unit {0} | y ∷ ys ↦ ⊥ ]) e tt

  field-made : (o field : Option (List ℕ)) → map (make lexemes) (listed lexemes o) ≡ listed lexemes field → of_text is_empty o ≤ 0 → OnlyComments (λ n. of_text (count n) o) → AreField lexemes (text_or lexemes o) field
  field-made None None is h only = refl
  field-made None (Some text) is h only = absurd (no-texts text [] is)
  field-made (Some ns) None is h only = absurd (no-texts (make lexemes ns) [] (sym is))
  field-made (Some ns) (Some text) is h only = subst (AreText lexemes ns) (ap first_text is) (text-made ns h only)

  texts-made : (nss texts : List (List ℕ)) → map (make lexemes) nss ≡ texts → of_texts is_empty nss ≤ 0 → OnlyComments (λ n. of_texts (count n) nss) → AreTexts lexemes nss texts
  texts-made [] [] is h only = tt
  texts-made [] (text ∷ texts) is h only = absurd (no-texts text texts is)
  texts-made (ns ∷ nss) [] is h only = absurd (no-texts (make lexemes ns) (map (make lexemes) nss) (sym is))
  texts-made (ns ∷ nss) (text ∷ texts) is h only = (
    subst (AreText lexemes ns) (ap first_text is) (text-made ns (omega (arith, h)) (λ n none. omega (arith, only n none))),
    texts-made nss texts (ap others is) (omega (arith, h)) (λ n none. omega (arith, only n none)),
  )

  -- ---- the numbers of what locations take

  -- the comments that a location takes, before one row and behind another
  abbrev sources_at : Place → Place → Sources
  sources_at first last = record { leading = text_or lexemes (numbers_at lexemes first).leading; trailing = text_or lexemes (numbers_at lexemes last).trailing; detached = (numbers_at lexemes first).detached }

  abbrev source_of : Taken → Sources
  source_of nothing = record { leading = []; trailing = []; detached = [] }
  source_of (ending first last) = sources_at first last
  source_of (opening first brace last) = sources_at first brace

  text-count : (n : ℕ) (o : Option (List ℕ)) → count n (text_or lexemes o) ≡ of_text (count n) o
  text-count n None = refl
  text-count n (Some ns) = refl

  texts-count : (n : ℕ) (nss : List (List ℕ)) → count n (flat_map (λ (ns : List ℕ). ns) nss) ≡ of_texts (count n) nss
  texts-count n [] = refl
  texts-count n (ns ∷ nss) = omega (arith, count-append n ns (flat_map (λ (ks : List ℕ). ks) nss), texts-count n nss)

  counted-at : (n : ℕ) (first last : Place) (more : List ℕ)
      → count n (numbers_of (sources_at first last) ++ more) ≡ (by_numbers lexemes (count n)).first first + (by_numbers lexemes (count n)).last last + count n more
  counted-at n first last more =
      let x = sources_at first last in
      let detached = flat_map (λ (ns : List ℕ). ns) x.detached in
      omega (
        arith,
        count-append n (numbers_of x) more,
        count-append n x.leading (x.trailing ++ detached),
        count-append n x.trailing detached,
        text-count n (numbers_at lexemes first).leading,
        text-count n (numbers_at lexemes last).trailing,
        texts-count n x.detached,
      )

  counted : (n : ℕ) (taken : List Taken) → count n (flat_map numbers_of (map source_of taken)) ≡ cost (by_numbers lexemes (count n)) taken
  counted n [] = refl
  counted n (nothing ∷ taken) = counted n taken
  counted n (ending first last ∷ taken) = omega (arith, counted n taken, counted-at n first last (flat_map numbers_of (map source_of taken)))
  counted n (opening first brace last ∷ taken) = omega (arith, counted n taken, counted-at n first brace (flat_map numbers_of (map source_of taken)))

  -- ---- the fields of a location

  -- the weight of the comments before a row and behind another
  abbrev at : Weights → Place → Place → ℕ
  at w first last = w.first first + w.last last

  made-of : (l : Location) (first last : Place) → l.leading_comments ≡ first.leading → l.trailing_comments ≡ last.trailing → l.leading_detached_comments ≡ first.detached
      → at (false_texts lexemes) first last ≤ 0 → at (by_numbers lexemes is_empty) first last ≤ 0 → OnlyComments (λ n. at (by_numbers lexemes (count n)) first last) → AreOf lexemes l (sources_at first last)
  made-of l first last leading trailing detached true_texts some only =
      let p = numbers_at lexemes first in
      let q = numbers_at lexemes last in
      record {
        leading = subst (AreField lexemes (text_or lexemes p.leading)) (sym leading)
            (field-made p.leading first.leading (differ-none lexemes (map (make lexemes) (listed lexemes p.leading)) (listed lexemes first.leading) (omega (arith, true_texts))) (omega (arith, some)) (λ n none. omega (arith, only n none)));
        trailing = subst (AreField lexemes (text_or lexemes q.trailing)) (sym trailing)
            (field-made q.trailing last.trailing (differ-none lexemes (map (make lexemes) (listed lexemes q.trailing)) (listed lexemes last.trailing) (omega (arith, true_texts))) (omega (arith, some)) (λ n none. omega (arith, only n none)));
        detached = subst (AreTexts lexemes p.detached) (sym detached)
            (texts-made p.detached first.detached (differ-none lexemes (map (make lexemes) p.detached) first.detached (omega (arith, true_texts))) (omega (arith, some)) (λ n none. omega (arith, only n none)));
      }

  module _ (source : List ℕ) where
    -- The comments stand around the location.
    around-of : (l : Location) (first last end : Place) (k : Known lexemes first) (m : Known lexemes last) → l.span ≡ span_numbers source (join first.span end.span)
        → first.span.start ≤ last.span.start → last.span.end ≤ end.span.end → (last.span.end ≡ end.span.end) ⊎ (m.row.shape ≡ open_brace) → StandsAround source lexemes l (sources_at first last)
    around-of l first last end k m span start stop what =
        let p : k.row.at ≡ numbers_at lexemes first = sym (ap place_in k.found) in
        let q : m.row.at ≡ numbers_at lexemes last = sym (ap place_in m.found) in
        record {
          span = join first.span end.span;
          spanned = span;
          first = k.around.number;
          begins = (k.around.lexeme, k.around.there, k.around.start ∙ k.start);
          from = k.around.from;
          gap = k.around.gap;
          before = subst (λ (x : Place). Rise k.around.from k.around.number (flat_map (λ (ns : List ℕ). ns) x.detached ++ text_or lexemes x.leading)) p k.around.before;
          leads = subst (λ (x : Place). Leads lexemes (text_or lexemes x.leading) k.around.number) p k.around.leads;
          last = m.around.number;
          ends = (
            m.around.lexeme,
            m.around.there,
            (
              omega (arith, start, m.around.start, m.start),
              omega (arith, stop, m.around.stop, m.end),
              elim what [
                | inl same ↦ inl (m.around.stop ∙ m.end ∙ same)
                | inr shape ↦ inr (m.around.shape ∙ shape)
              ],
            ),
          );
          trails = subst (λ (x : Place). Trails lexemes m.around.number (text_or lexemes x.trailing)) q m.around.trails;
          neighbours = (
            subst (λ (x : Place). AreNeighbours (text_or lexemes x.leading)) p k.around.leading,
            (
              subst (λ (x : Place). AreNeighbours (text_or lexemes x.trailing)) q m.around.trailing,
              subst (λ (x : Place). Each AreNeighbours x.detached) p k.around.detached,
            ),
          );
        }

    ending-around : (l : Location) (first last : Place) → l.span ≡ span_numbers source (join first.span last.span) → (disorder lexemes).both first last ≤ 0 → StandsAround source lexemes l (sources_at first last)
    ending-around l first last span h =
        around-of l first last last (known-first lexemes first last h) (known-second lexemes first last h) span (starts lexemes first last h) (omega arith) (inl refl)

    opening-around : (l : Location) (first brace last : Place) → l.span ≡ span_numbers source (join first.span last.span)
        → (disorder lexemes).mark open_brace brace ≤ 0 → (disorder lexemes).both first brace ≤ 0 → (disorder lexemes).both brace last ≤ 0 → StandsAround source lexemes l (sources_at first brace)
    opening-around l first brace last span mark h more =
        let m = known-second lexemes first brace h in
        around-of l first brace last (known-first lexemes first brace h) m span (starts lexemes first brace h) (ends lexemes brace last more) (inr (braced lexemes brace m mark))

    located : (ls : List Location) (taken : List Taken) → SayEach (span_numbers source) ls taken → cost (false_texts lexemes) taken ≤ 0 → cost (by_numbers lexemes is_empty) taken ≤ 0
        → OnlyComments (λ n. cost (by_numbers lexemes (count n)) taken) → cost (disorder lexemes) taken ≤ 0 → AreOfEach source lexemes ls (map source_of taken)
    located [] [] said true_texts some only order = tt
    located [] (x ∷ taken) said true_texts some only order = absurd said
    located (l ∷ ls) [] said true_texts some only order = absurd said
    located (l ∷ ls) (nothing ∷ taken) said true_texts some only order = (
      record {
        leading = subst (AreField lexemes []) (sym said.0.0) refl;
        trailing = subst (AreField lexemes []) (sym said.0.1) refl;
        detached = subst (AreTexts lexemes []) (sym said.0.2) tt;
      },
      inl refl,
      located ls taken said.1 true_texts some only order,
    )
    located (l ∷ ls) (ending first last ∷ taken) said true_texts some only order = (
      made-of l first last said.0.0 said.0.1 said.0.2 (omega (arith, true_texts)) (omega (arith, some)) (λ n none. omega (arith, only n none)),
      inr (ending-around l first last said.0.3 (omega (arith, order))),
      located ls taken said.1 (omega (arith, true_texts)) (omega (arith, some)) (λ n none. omega (arith, only n none)) (omega (arith, order)),
    )
    located (l ∷ ls) (opening first brace last ∷ taken) said true_texts some only order = (
      made-of l first brace said.0.0 said.0.1 said.0.2 (omega (arith, true_texts)) (omega (arith, some)) (λ n none. omega (arith, only n none)),
      inr (opening-around l first brace last said.0.3 (omega (arith, order)) (omega (arith, order)) (omega (arith, order))),
      located ls taken said.1 (omega (arith, true_texts)) (omega (arith, some)) (λ n none. omega (arith, only n none)) (omega (arith, order)),
    )

-- ---- the law

commented-once : (source : List ℕ) → IsUtf8 source → (f : t.File Place) → IsAccepted source f → CommentedOnce source (cut 0 source) (file_locations (span_numbers source) (ast.file (length source) f))
commented-once source u f accepted =
    let lexemes = cut 0 source in
    let locations = file_locations (span_numbers source) (ast.file (length source) f) in
    let take = file-takes (span_numbers source) (length source) f in
    let rows = with_numbers lexemes in
    let is : s.spell f ≡ map (made_row (make lexemes)) rows = sym accepted.spells.0 ∙ rows-made lexemes in
    let low : Stand 0 (length source) rows = subst (StandBetween 0 (length source)) (sym (bare-placed true (rows_of lexemes) (gaps_of (numbered 0 lexemes)))) (stand source u) in
    let stands : Each (IsFound rows) rows = found 0 (length source) rows low in
    let bound : (e : List ℕ → ℕ) → ((a b : List ℕ) → e (a ++ b) ≤ e a + e b) → cost (by_numbers lexemes e) take.taken ≤ of_lexemes e (numbered 0 lexemes) =
    λ e grows. omega (arith, take.within (by_numbers lexemes e), ap (weigh (by_numbers lexemes e)) is, weigh-numbers lexemes e rows stands, all-within e grows (rows_of lexemes) (numbered 0 lexemes))
    in (
      map (source_of lexemes) take.taken,
      located lexemes source locations take.taken take.said
          (omega (arith, take.within (false_texts lexemes), ap (weigh (false_texts lexemes)) is, none-false lexemes rows stands))
          (omega (arith, bound is_empty empty-grows, none-empty 0 lexemes))
          (λ n none. omega (arith, bound (count n) (count-grows n), count-none lexemes n 0 lexemes (from-start lexemes) none))
          (omega (arith, take.within (disorder lexemes), ap (weigh (disorder lexemes)) is, in-order-all lexemes rows 0 (length source) low stands)),
      none-twice (flat_map numbers_of (map (source_of lexemes) take.taken)) (λ n. omega (arith, counted lexemes n take.taken, bound (count n) (count-grows n), count-once n 0 lexemes)),
    )

-- In an answer that is the descriptor of a source's tree, each comment stands once.
pub answer-commented : (name source : List ℕ) (file : File) (d : FileDescriptorProto) → IsUtf8 source → IsFileOf source file → d ≡ file_descriptor name source file → AreCommentedOnce source d
unfolding file_descriptor
answer-commented name source file d u of is =
    subst (AreCommentedOnce source) (sym (is ∙ ap (file_descriptor name source) of.2)) (commented-once source u of.0 of.1)
