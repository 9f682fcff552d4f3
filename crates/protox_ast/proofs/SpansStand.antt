-- Spans that stand one after another, and the parts of a tree that some rows spell.
use Rattle.std.proofs.Common.{ℕ, ◌<◌, ◌≤◌, List, [], ◌∷◌, ◌++◌, map, sym, subst, append_assoc, arith}
use Rattle.std.proofs.lemmas.List.{append-nil}
use Rattle.protox_fault.specs.Faults.{Span}
use Rattle.protox_lexeme.specs.Shapes.{Row, Rows}
use Rattle.protox_ast.specs.Keywords.{Each}
use Rattle.protox_ast.specs.Places.{Place}
use Rattle.protox_ast.specs.AstParts.{last_place}
use Rattle.protox_ast.specs.Spelling as s
use Rattle.protox_ast.specs.Siblings.{SpansStand, Siblings, SiblingsStand, siblings, SiblingKind, AField, AMessage, AnEnum, AOneof, AnExtend, AnExtension, AService, sibling_kinds, Node, node_spans, inside_all, brought}
use Rattle.protox_ast.proofs.Standing.{Stand, in-order}

-- ---- each of a list

pub each-append : {A : Type 0} (P : A → Type 0) (xs ys : List A) → Each P xs → Each P ys → Each P (xs ++ ys)
each-append P [] ys h k = k
each-append P (x ∷ xs) ys h k = (h.0, each-append P xs ys h.1 k)

pub each-front : {A : Type 0} (P : A → Type 0) (xs ys : List A) → Each P (xs ++ ys) → Each P xs
each-front P [] ys h = tt
each-front P (x ∷ xs) ys h = (h.0, each-front P xs ys h.1)

pub each-back : {A : Type 0} (P : A → Type 0) (xs ys : List A) → Each P (xs ++ ys) → Each P ys
each-back P [] ys h = h
each-back P (x ∷ xs) ys h = each-back P xs ys h.1

pub each-so : {A : Type 0} (P Q : A → Type 0) (xs : List A) → ((x : A) → P x → Q x) → Each P xs → Each Q xs
each-so P Q [] so h = tt
each-so P Q (x ∷ xs) so h = (so x h.0, each-so P Q xs so h.1)

-- ---- spans

pub spans-order : (low high : ℕ) (xs : List Span) → SpansStand low high xs → low ≤ high
spans-order low high [] h = h
spans-order low high (x ∷ xs) h = omega (arith, h.0, h.1, spans-order x.end high xs h.2)

pub spans-append : (low mid high : ℕ) (xs ys : List Span) → SpansStand low mid xs → SpansStand mid high ys → SpansStand low high (xs ++ ys)
spans-append low mid high [] [] h k = omega (arith, h, k)
spans-append low mid high [] (y ∷ ys) h k = (omega (arith, h, k.0), k.1, k.2)
spans-append low mid high (x ∷ xs) ys h k = (h.0, h.1, spans-append x.end mid high xs ys h.2 k)

pub spans-wider : (low high low' high' : ℕ) (xs : List Span) → low' ≤ low → high ≤ high' → SpansStand low high xs → SpansStand low' high' xs
spans-wider low high low' high' [] l m h = omega (arith, h)
spans-wider low high low' high' (x ∷ xs) l m h = (omega (arith, l, h.0), h.1, spans-wider x.end high x.end high' xs (omega arith) m h.2)

pub siblings-wider : (low high low' high' : ℕ) (x : Siblings) → low' ≤ low → high ≤ high' → SiblingsStand low high x → SiblingsStand low' high' x
siblings-wider low high low' high' x l m h = record { from = omega (arith, l, h.from); parts = h.parts; to = omega (arith, m, h.to) }

-- ---- rows that spell some nodes

-- The spans of some nodes stand between two offsets, with all that is in the nodes.
pub record NodesStand (low high : ℕ) (xs : List Span) (inside : List Siblings) : Type 0 where
  pub spans : SpansStand low high xs
  pub within : Each (SiblingsStand low high) inside

nodes-wider : (low high low' high' : ℕ) (xs : List Span) (inside : List Siblings) → low' ≤ low → high ≤ high' → NodesStand low high xs inside → NodesStand low' high' xs inside
nodes-wider low high low' high' xs inside l m h = record {
  spans = spans-wider low high low' high' xs l m h.spans;
  within = each-so (SiblingsStand low high) (SiblingsStand low' high') inside (λ x k. siblings-wider low high low' high' x l m k) h.within;
}

nodes-append : (low mid high : ℕ) (xs ys : List Span) (a b : List Siblings) → NodesStand low mid xs a → NodesStand mid high ys b → NodesStand low high (xs ++ ys) (a ++ b)
nodes-append low mid high xs ys a b h k =
    let l : low ≤ mid = spans-order low mid xs h.spans in
    let m : mid ≤ high = spans-order mid high ys k.spans in
    record {
      spans = spans-append low mid high xs ys h.spans k.spans;
      within = each-append (SiblingsStand low high) a b ((nodes-wider low mid low high xs a (omega arith) m h).within) ((nodes-wider mid high low high ys b l (omega arith) k).within);
    }

pub stand-split : (low high : ℕ) (a b : Rows Place) → Stand low high (a ++ b) → (m : ℕ) × Stand low m a × Stand m high b
stand-split low high [] b h = (low, omega arith, h)
stand-split low high (x ∷ a) b h =
    let p = stand-split x.at.span.end high a b h.2 in
    (p.0, (h.0, h.1, p.1), p.2)

pub stand-join : (low mid high : ℕ) (a b : Rows Place) → Stand low mid a → Stand mid high b → Stand low high (a ++ b)
stand-join low mid high [] [] h k = omega (arith, h, k)
stand-join low mid high [] (y ∷ b) h k = (omega (arith, h, k.0), k.1, k.2)
stand-join low mid high (x ∷ a) b h k = (h.0, h.1, stand-join x.at.span.end mid high a b h.2 k)

-- Wherever the rows stand, these nodes stand.
pub record Hold (rows : Rows Place) (xs : List Span) (inside : List Siblings) : Type 0 where
  pub stand : (low high : ℕ) → Stand low high rows → NodesStand low high xs inside

-- The rows begin at an offset, and end at one.
pub record Begin (rows : Rows Place) (n : ℕ) : Type 0 where
  pub at : (low high : ℕ) → Stand low high rows → (low ≤ n) × (n < high) × Stand n high rows

pub record End (rows : Rows Place) (n : ℕ) : Type 0 where
  pub at : (low high : ℕ) → Stand low high rows → (n ≤ high) × Stand low n rows

-- The rows are a node with this span, with all that is in it.
pub record IsNode (rows : Rows Place) (span : Span) (inside : List Siblings) : Type 0 where
  pub begin : Begin rows span.start
  pub end : End rows span.end
  pub hold : Hold rows (span ∷ []) inside

pub begin-first : (r : Row Place) (rows : Rows Place) → Begin (r ∷ rows) r.at.span.start
begin-first r rows = record { at = λ low high h. (h.0, omega (arith, h.1, in-order r.at.span.end high rows h.2), (omega arith, h.1, h.2)) }

pub begin-front : (a b : Rows Place) {n : ℕ} → Begin a n → Begin (a ++ b) n
begin-front a b {n} f = record {
  at = λ low high h.
      let p = stand-split low high a b h in
      let q = f.at low p.0 p.1 in
      (q.0, omega (arith, q.1, in-order p.0 high b p.2), stand-join n p.0 high a b q.2 p.2);
}

pub end-last : (r : Row Place) → End (r ∷ []) r.at.span.end
end-last r = record { at = λ low high h. (h.2, (h.0, h.1, omega arith)) }

pub end-back : (a b : Rows Place) {n : ℕ} → End b n → End (a ++ b) n
end-back a b {n} f = record {
  at = λ low high h.
      let p = stand-split low high a b h in
      let q = f.at p.0 high p.2 in
      (q.0, stand-join low p.0 n a b p.1 q.1);
}

-- At the last of several.
pub end-many : {A : Type 0} (place : A → Span) (spell : A → Rows Place) → ((x : A) → End (spell x) (place x).end)
    → (rows : Rows Place) (span : Span) → End rows span.end → (xs : List A) → End (rows ++ s.many spell xs) (last_place place span xs).end
end-many place spell f rows span h [] = subst (λ u. End u span.end) (sym (append-nil rows)) h
end-many place spell f rows span h (x ∷ xs) =
    subst (λ u. End u (last_place place (place x) xs).end) (append_assoc rows (spell x) (s.many spell xs))
    (end-many place spell f (rows ++ spell x) (place x) (end-back rows (spell x) (f x)) xs)

-- ---- rules

pub none : Hold [] [] []
none = record { stand = λ low high h. record { spans = h; within = tt } }

-- rows that are not looked into
pub nothing : (rows : Rows Place) → Hold rows [] []
nothing rows = record { stand = λ low high h. record { spans = in-order low high rows h; within = tt } }

-- A token that is a part, and one that isn't, with what follows.
pub one : (r : Row Place) → Hold (r ∷ []) (r.at.span ∷ []) []
one r = record { stand = λ low high h. record { spans = h; within = tt } }

pub past : {rows : Rows Place} {xs : List Span} {i : List Siblings} (r : Row Place) → Hold rows xs i → Hold (r ∷ rows) xs i
past {rows} {xs} {i} r f = record { stand = λ low high h. nodes-append low r.at.span.end high [] xs [] i ((nothing (r ∷ [])).stand low r.at.span.end (h.0, h.1, omega arith)) (f.stand r.at.span.end high h.2) }

pub token : {rows : Rows Place} {xs : List Span} {i : List Siblings} (r : Row Place) → Hold rows xs i → Hold (r ∷ rows) (r.at.span ∷ xs) i
token {rows} {xs} {i} r f = record { stand = λ low high h. nodes-append low r.at.span.end high (r.at.span ∷ []) xs [] i ((one r).stand low r.at.span.end (h.0, h.1, omega arith)) (f.stand r.at.span.end high h.2) }

pub both : (a b : Rows Place) {xs ys : List Span} {i j : List Siblings} → Hold a xs i → Hold b ys j → Hold (a ++ b) (xs ++ ys) (i ++ j)
both a b {xs} {ys} {i} {j} f g = record {
  stand = λ low high h.
      let p = stand-split low high a b h in
      nodes-append low p.0 high xs ys i j (f.stand low p.0 p.1) (g.stand p.0 high p.2);
}

-- with no part before
pub before : (a b : Rows Place) {xs : List Span} {i : List Siblings} → Hold b xs i → Hold (a ++ b) xs i
before a b f = both a b (nothing a) f

-- with no part behind
pub after : (a b : Rows Place) {xs : List Span} {i : List Siblings} → Hold a xs i → Hold (a ++ b) xs i
after a b {xs} {i} f = subst (λ ys. Hold (a ++ b) ys i) (append-nil xs) (subst (λ j. Hold (a ++ b) (xs ++ []) j) (append-nil i) (both a b f (nothing b)))

-- Rows from the start of a span to its end are a node with this span.
pub leaf : {rows : Rows Place} (span : Span) → Begin rows span.start → End rows span.end → IsNode rows span []
leaf {rows} span f g = record {
  begin = f;
  end = g;
  hold = record {
    stand = λ low high h.
        let q = g.at low high h in
        let p = f.at low span.end q.1 in
        record { spans = (p.0, p.1, q.0); within = tt };
  };
}

pub whole : {rows : Rows Place} {xs : List Span} {i : List Siblings} (span : Span) → Begin rows span.start → End rows span.end → Hold rows xs i → IsNode rows span (siblings span xs ∷ i)
whole {rows} {xs} {i} span f g k = record {
  begin = f;
  end = g;
  hold = record {
    stand = λ low high h.
        let q = g.at low high h in
        let p = f.at low span.end q.1 in
        let n = k.stand span.start span.end p.2 in
        record {
          spans = (p.0, p.1, q.0);
          within = (record { from = p.0; parts = n.spans; to = q.0 }, (nodes-wider span.start span.end low high xs i p.0 q.0 n).within);
        };
  };
}

pub token-node : (r : Row Place) → IsNode (r ∷ []) r.at.span []
token-node r = leaf r.at.span (begin-first r []) (end-last r)

-- ---- several lists of parts

pub record Lists (rows : Rows Place) (xss : List (List Span)) (inside : List Siblings) : Type 0 where
  pub stand : (low high : ℕ) → Stand low high rows → Each (SpansStand low high) xss × Each (SiblingsStand low high) inside

pub last-list : {rows : Rows Place} {xs : List Span} {i : List Siblings} → Hold rows xs i → Lists rows (xs ∷ []) i
last-list f = record { stand = λ low high h. (((f.stand low high h).spans, tt), (f.stand low high h).within) }

pub more-lists : {rows : Rows Place} {xs : List Span} {i : List Siblings} {xss : List (List Span)} {j : List Siblings} → Hold rows xs i → Lists rows xss j → Lists rows (xs ∷ xss) (i ++ j)
more-lists {rows} {xs} {i} {xss} {j} f g = record {
  stand = λ low high h.
      let n = f.stand low high h in
      let m = g.stand low high h in
      ((n.spans, m.0), each-append (SiblingsStand low high) i j n.within m.1);
}

pub lists-within : (span : Span) (low high : ℕ) (xss : List (List Span)) → low ≤ span.start → span.end ≤ high → Each (SpansStand span.start span.end) xss → Each (SiblingsStand low high) (map (siblings span) xss)
lists-within span low high [] l m h = tt
lists-within span low high (xs ∷ xss) l m h = (record { from = l; parts = h.0; to = m }, lists-within span low high xss l m h.1)

-- The rows hold these spans. What is in them is left out.
pub spans-only : {rows : Rows Place} {xs : List Span} {i : List Siblings} → Hold rows xs i → Hold rows xs []
spans-only {rows} {xs} {i} f = record { stand = λ low high h. record { spans = (f.stand low high h).spans; within = tt } }

-- The rows hold some nodes, and what these add of each kind.
pub record HoldAll (rows : Rows Place) (nodes : List Node) : Type 0 where
  pub hold : Hold rows (node_spans nodes) (inside_all nodes)
  pub bring : (kind : SiblingKind) → Hold rows (brought kind nodes) []

pub kinds-lists : {rows : Rows Place} {nodes : List Node} {xss : List (List Span)} {i : List Siblings} → HoldAll rows nodes → Lists rows xss i → Lists rows (map (λ kind. brought kind nodes) sibling_kinds ++ xss) i
kinds-lists f g =
    more-lists (f.bring AField) (more-lists (f.bring AMessage) (more-lists (f.bring AnEnum) (more-lists (f.bring AOneof) (more-lists (f.bring AnExtend) (more-lists (f.bring AnExtension) (more-lists (f.bring AService) g))))))

pub all-none : HoldAll [] []
all-none = record { hold = none; bring = λ kind. none }

pub all-past : {rows : Rows Place} {nodes : List Node} (r : Row Place) → HoldAll rows nodes → HoldAll (r ∷ rows) nodes
all-past r f = record { hold = past r f.hold; bring = λ kind. past r (f.bring kind) }

pub all-before : (a b : Rows Place) {nodes : List Node} → HoldAll b nodes → HoldAll (a ++ b) nodes
all-before a b f = record { hold = before a b f.hold; bring = λ kind. before a b (f.bring kind) }

pub all-after : (a b : Rows Place) {nodes : List Node} → HoldAll a nodes → HoldAll (a ++ b) nodes
all-after a b f = record { hold = after a b f.hold; bring = λ kind. after a b (f.bring kind) }

-- The lists of a node with this span.
pub lists-node : {rows : Rows Place} {xss : List (List Span)} {i : List Siblings} (span : Span) → Begin rows span.start → End rows span.end → Lists rows xss i → IsNode rows span (map (siblings span) xss ++ i)
lists-node {rows} {xss} {i} span f g k = record {
  begin = f;
  end = g;
  hold = record {
    stand = λ low high h.
        let q = g.at low high h in
        let p = f.at low span.end q.1 in
        let n = k.stand span.start span.end p.2 in
        record {
          spans = (p.0, p.1, q.0);
          within = each-append (SiblingsStand low high) (map (siblings span) xss) i (lists-within span low high xss p.0 q.0 n.0)
              (each-so (SiblingsStand span.start span.end) (SiblingsStand low high) i (λ x k. siblings-wider span.start span.end low high x p.0 q.0 k) n.1);
        };
  };
}
