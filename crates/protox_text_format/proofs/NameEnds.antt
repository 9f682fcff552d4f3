-- Names of fields: where one ends is told by its own pieces.
use Rattle.std.proofs.Common.{◌≡◌, ℕ, ◌-◌, List, [], ◌∷◌, ◌++◌, length, slice_range, refl, sym, ◌∙◌, ap, subst, append_assoc, lit<}
use Rattle.protox_text_format.specs.Spelling.{IsDotted, IsName, IsString, IsWord, Stands}
use Rattle.protox_text_format.specs.Spelling.IsDotted.{LastWord, NextWord}
use Rattle.protox_text_format.specs.Spelling.IsName.{OfField, OfExtension, OfType}
use Rattle.protox_text_format.specs.declared.fault.TextFaultKind.{TextFaultKind}
use Rattle.protox_text_format.specs.declared.fault.TextFaultKind.TheVariants.{NoMark, NoWord}
use Rattle.protox_text_format.specs.declared.item.Piece.{Piece}
use Rattle.protox_text_format.specs.Failure.{IsNumber}
use Rattle.protox_text_format.specs.inner.Reading.{Follows}
use Rattle.protox_text_format.specs.inner.Reading.Follows.{AsLeft, ByNumber}
use Rattle.protox_text_format.specs.inner.Reading.Same.{BothEnd, BothGoOn}
use Rattle.protox_text_format.specs.inner.Marks.{Begins, NotFirst}
use Rattle.protox_text_format.specs.inner.Names.{IsBroken, IsNamed, IsNamedInBrackets, IsStarted, IsUnnamed, IsUnnamedInBrackets, NoWords, Words, WordsTo}
use Rattle.protox_text_format.specs.inner.Names.IsBroken.{AtFront, BehindType, BehindWords, InType, InWords}
use Rattle.protox_text_format.specs.inner.Names.IsStarted.{AfterDot, NoWordYet}
use Rattle.protox_text_format.proofs.Firsts.{above, below, closes, closing, heads, marks_differ, not_first, number_no_mark, number_no_string, number_no_word, range_all, range_to, tails, word_no_mark}

-- ---- words with dots between them

started_more : (words : List Piece) (word dot : Piece) → IsStarted words → IsWord word → Stands 46 dot → IsStarted (words ++ word ∷ dot ∷ [])
started_more words word dot NoWordYet w d = AfterDot word dot [] w d NoWordYet
started_more words word dot (AfterDot v e more i j s) w d = AfterDot v e (more ++ word ∷ dot ∷ []) i j (started_more more word dot s w d)

pub started_word : (words : List Piece) (word : Piece) → IsStarted words → IsWord word → IsDotted (words ++ word ∷ [])
started_word words word NoWordYet w = LastWord word w
started_word words word (AfterDot v e more i j s) w = NextWord v e (more ++ word ∷ []) i j (started_word more word s w)

pub words_begin : (pieces : List Piece) → WordsTo pieces pieces
words_begin pieces = record { words = []; cut = refl; started = NoWordYet }

pub words_more : (pieces left more next : List Piece) → WordsTo pieces left → Begins IsWord left more
    → Begins (Stands 46) more next → WordsTo pieces next
words_more pieces left more next to word dot = record {
  words = to.words ++ word.piece ∷ dot.piece ∷ [];
  cut = to.cut ∙ (ap (λ (x : List Piece). to.words ++ x) (word.cut ∙ ap (λ (x : List Piece). word.piece ∷ x) dot.cut)
      ∙ sym (append_assoc to.words (word.piece ∷ dot.piece ∷ []) next));
  started = started_more to.words word.piece dot.piece to.started word.is dot.is;
}

pub words_end : (pieces left more : List Piece) → WordsTo pieces left → Begins IsWord left more
    → NotFirst (Stands 46) more → Words pieces more
words_end pieces left more to word ends = record {
  words = to.words ++ word.piece ∷ [];
  cut = to.cut ∙ (ap (λ (x : List Piece). to.words ++ x) word.cut
      ∙ sym (append_assoc to.words (word.piece ∷ []) more));
  dotted = started_word to.words word.piece to.started word.is;
  ends = ends;
}

pub words_at : (pieces next : List Piece) → WordsTo pieces next
    → WordsTo pieces (slice_range pieces (length pieces - length next) (length pieces))
words_at pieces next to =
    subst (λ (x : List Piece). WordsTo pieces x) (sym (range_to pieces to.words next to.cut)) to

pub words_front : (pieces : List Piece) → WordsTo pieces (slice_range pieces 0 (length pieces))
words_front pieces = subst (λ (x : List Piece). WordsTo pieces x) (sym (range_all pieces)) (words_begin pieces)

pub dotted_same : (d e x y : List Piece) → IsDotted d → IsDotted e → d ++ x ≡ e ++ y
    → NotFirst (Stands 46) x → NotFirst (Stands 46) y → (d ≡ e) × (x ≡ y)
dotted_same d e x y (LastWord w i) (LastWord v j) same nx ny = (cc, cc)
dotted_same d e x y (LastWord w i) (NextWord v dot more j is_dot m) same nx ny =
    absurd (not_first (Stands 46) dot x (more ++ y) nx (tails w v x (dot ∷ more ++ y) same) is_dot)
dotted_same d e x y (NextWord w dot more i is_dot m) (LastWord v j) same nx ny =
    absurd (not_first (Stands 46) dot y (more ++ x) ny (sym (tails w v (dot ∷ more ++ x) y same)) is_dot)
dotted_same d e x y (NextWord w dot more i is_dot m) (NextWord v dot' more' j is_dot' m') same nx ny =
    let first : w ≡ v = cc in
    let second : dot ≡ dot' = cc in
    let others : more ++ x ≡ more' ++ y = cc in
    let rest = dotted_same more more' x y m m' others nx ny in
    let inner = rest.0 in
    (cc, rest.1)

-- Words that break off in front of what is no word are not the front of whole ones.
started_never : (s d more x : List Piece) → IsStarted s → IsDotted d → NotFirst (Stands 46) x
    → NotFirst IsWord more → d ++ x ≡ s ++ more → ⊥
started_never s d more x NoWordYet (LastWord v j) nx nm e = not_first IsWord v more x nm (sym e) j
started_never s d more x NoWordYet (NextWord v dot others j i o) nx nm e =
    not_first IsWord v more (dot ∷ others ++ x) nm (sym e) j
started_never s d more x (AfterDot w dot others i is_dot o) (LastWord v j) nx nm e =
    not_first (Stands 46) dot x (others ++ more) nx (tails v w x (dot ∷ others ++ more) e) is_dot
started_never s d more x (AfterDot w dot others i is_dot o) (NextWord v dot' others' j is_dot' o') nx nm e =
    let e' : others' ++ x ≡ others ++ more = cc in
    started_never others others' more x o o' nx nm e'

-- ---- names

-- a name in brackets without its first bracket, and what stands behind it
inner_words : (name more : List Piece) (close_at : Piece) → (name ++ close_at ∷ []) ++ more ≡ name ++ (close_at ∷ more)
inner_words name more close_at = append_assoc name (close_at ∷ []) more

inner_type : (domain name more : List Piece) (slash close_at : Piece)
    → (domain ++ slash ∷ name ++ close_at ∷ []) ++ more ≡ domain ++ (slash ∷ (name ++ (close_at ∷ more)))
inner_type domain name more slash close_at =
    append_assoc (domain ++ slash ∷ name) (close_at ∷ []) more
    ∙ append_assoc domain (slash ∷ name) (close_at ∷ more)

no_dot_close : (piece : Piece) → Stands 93 piece → Stands 46 piece → ⊥
no_dot_close piece e dot = marks_differ piece 46 93 (below 46 93 (lit< tt)) dot e

no_dot_slash : (piece : Piece) → Stands 47 piece → Stands 46 piece → ⊥
no_dot_slash piece e dot = marks_differ piece 46 47 (below 46 47 (lit< tt)) dot e

close_slash : (close_at slash : Piece) (xs ys : List Piece) → Stands 93 close_at → Stands 47 slash
    → close_at ∷ xs ≡ slash ∷ ys → ⊥
close_slash close_at slash xs ys c s e =
    marks_differ close_at 93 47 (above 93 47 (lit< tt)) c (subst (λ (p : Piece). Stands 47 p) (sym (heads close_at slash xs ys e)) s)

no_word_open : (word open_at : Piece) (xs ys : List Piece) → IsWord word → Stands 91 open_at → word ∷ xs ≡ open_at ∷ ys → ⊥
no_word_open word open_at xs ys w o e =
    word_no_mark word 91 w (subst (λ (p : Piece). Stands 91 p) (sym (heads word open_at xs ys e)) o)

same_words : (o o' c c' : Piece) (n n' : List Piece) → o ≡ o' → n ≡ n' → c ≡ c'
    → ◌≡◌ {A = List Piece} (o ∷ n ++ c ∷ []) (o' ∷ n' ++ c' ∷ [])
same_words o o' c c' n n' eo en ec = cc

same_type : (o o' s s' c c' : Piece) (d d' n n' : List Piece) → o ≡ o' → d ≡ d' → s ≡ s' → n ≡ n' → c ≡ c'
    → ◌≡◌ {A = List Piece} (o ∷ d ++ s ∷ n ++ c ∷ []) (o' ∷ d' ++ s' ∷ n' ++ c' ∷ [])
same_type o o' s s' c c' d d' n n' eo ed es en ec = cc

pub name_same : (n m x y : List Piece) → IsName n → IsName m → n ++ x ≡ m ++ y → (n ≡ m) × (x ≡ y)
name_same n m x y (OfField word w) (OfField word' w') e = (cc, cc)
name_same n m x y (OfField word w) (OfExtension open_at close_at name o i c) e =
    absurd (no_word_open word open_at x ((name ++ close_at ∷ []) ++ y) w o e)
name_same n m x y (OfField word w) (OfType open_at slash close_at domain name o d s i c) e =
    absurd (no_word_open word open_at x ((domain ++ slash ∷ name ++ close_at ∷ []) ++ y) w o e)
name_same n m x y (OfExtension open_at close_at name o i c) (OfField word w) e =
    absurd (no_word_open word open_at y ((name ++ close_at ∷ []) ++ x) w o (sym e))
name_same n m x y (OfType open_at slash close_at domain name o d s i c) (OfField word w) e =
    absurd (no_word_open word open_at y ((domain ++ slash ∷ name ++ close_at ∷ []) ++ x) w o (sym e))
name_same n m x y (OfExtension open_at close_at name o i c) (OfExtension open_at' close_at' name' o' i' c') e =
    let e' : name ++ (close_at ∷ x) ≡ name' ++ (close_at' ∷ y) =
    sym (inner_words name x close_at) ∙ (tails open_at open_at' _ _ e ∙ inner_words name' y close_at') in
    let inner = dotted_same name name' (close_at ∷ x) (close_at' ∷ y) i i' e' (no_dot_close close_at c) (no_dot_close close_at' c') in
    (same_words open_at open_at' close_at close_at' name name' (heads open_at open_at' _ _ e) inner.0 (heads close_at close_at' _ _ inner.1), tails close_at close_at' _ _ inner.1)
name_same n m x y (OfExtension open_at close_at name o i c) (OfType open_at' slash close_at' domain name' o' d s i' c') e =
    let e' : name ++ (close_at ∷ x) ≡ domain ++ (slash ∷ (name' ++ (close_at' ∷ y))) =
    sym (inner_words name x close_at) ∙ (tails open_at open_at' _ _ e ∙ inner_type domain name' y slash close_at') in
    let inner = dotted_same name domain (close_at ∷ x) (slash ∷ (name' ++ (close_at' ∷ y))) i d e' (no_dot_close close_at c) (no_dot_slash slash s) in
    absurd (close_slash close_at slash _ _ c s inner.1)
name_same n m x y (OfType open_at' slash close_at' domain name' o' d s i' c') (OfExtension open_at close_at name o i c) e =
    let e' : domain ++ (slash ∷ (name' ++ (close_at' ∷ x))) ≡ name ++ (close_at ∷ y) =
    sym (inner_type domain name' x slash close_at') ∙ (tails open_at' open_at _ _ e ∙ inner_words name y close_at) in
    let inner = dotted_same domain name (slash ∷ (name' ++ (close_at' ∷ x))) (close_at ∷ y) d i e' (no_dot_slash slash s) (no_dot_close close_at c) in
    absurd (close_slash close_at slash _ _ c s (sym inner.1))
name_same n m x y (OfType open_at slash close_at domain name o d s i c) (OfType open_at' slash' close_at' domain' name' o' d' s' i' c') e =
    let e' : domain ++ (slash ∷ (name ++ (close_at ∷ x))) ≡ domain' ++ (slash' ∷ (name' ++ (close_at' ∷ y))) =
    sym (inner_type domain name x slash close_at) ∙ (tails open_at open_at' _ _ e ∙ inner_type domain' name' y slash' close_at') in
    let front = dotted_same domain domain' _ _ d d' e' (no_dot_slash slash s) (no_dot_slash slash' s') in
    let back = dotted_same name name' _ _ i i' (tails slash slash' _ _ front.1) (no_dot_close close_at c) (no_dot_close close_at' c') in (
      same_type open_at open_at' slash slash' close_at close_at' domain domain' name name' (heads open_at open_at' _ _ e)
          front.0 (heads slash slash' _ _ front.1) back.0 (heads close_at close_at' _ _ back.1),
      tails close_at close_at' _ _ back.1,
    )

-- ---- where a name breaks off

follows_not : (P : Piece → Type 0) (wrong more : List Piece) → ((piece : Piece) → P piece → IsNumber piece → ⊥)
    → Follows wrong more → NotFirst P wrong → NotFirst P more
follows_not P wrong more other (AsLeft left others BothEnd) not = tt
follows_not P wrong more other (AsLeft left others (BothGoOn piece a b)) not = not
follows_not P wrong more other (ByNumber piece left others number) not = λ is. other piece is number

pub no_mark_follows : (mark : ℕ) (wrong more : List Piece) → Follows wrong more → NotFirst (Stands mark) wrong
    → NotFirst (Stands mark) more
no_mark_follows mark wrong more = follows_not (Stands mark) wrong more (λ piece. number_no_mark piece mark)

pub no_word_follows : (wrong more : List Piece) → Follows wrong more → NotFirst IsWord wrong → NotFirst IsWord more
no_word_follows wrong more = follows_not IsWord wrong more number_no_word

pub no_string_follows : (wrong more : List Piece) → Follows wrong more → NotFirst IsString wrong → NotFirst IsString more
no_string_follows wrong more = follows_not IsString wrong more number_no_string

pub broken_follows : (kind : TextFaultKind) (before wrong more : List Piece) → Follows wrong more
    → IsBroken kind before wrong → IsBroken kind before more
broken_follows kind before wrong more f (AtFront left w o) =
    AtFront more (no_word_follows wrong more f w) (no_mark_follows 91 wrong more f o)
broken_follows kind before wrong more f (InWords open_at words left o s w) =
    InWords open_at words more o s (no_word_follows wrong more f w)
broken_follows kind before wrong more f (InType open_at slash domain words left o d i s w) =
    InType open_at slash domain words more o d i s (no_word_follows wrong more f w)
broken_follows kind before wrong more f (BehindWords open_at words left o d a b c) =
    BehindWords open_at words more o d (no_mark_follows 46 wrong more f a) (no_mark_follows 47 wrong more f b) (no_mark_follows 93 wrong more f c)
broken_follows kind before wrong more f (BehindType open_at slash domain words left o d i s a c) =
    BehindType open_at slash domain words more o d i s (no_mark_follows 46 wrong more f a) (no_mark_follows 93 wrong more f c)

-- the front of a name
pub name_front : (n x more : List Piece) → IsName n → n ++ x ≡ more → NotFirst IsWord more → NotFirst (Stands 91) more → ⊥
name_front n x more (OfField word w) e nw nb = not_first IsWord word more x nw (sym e) w
name_front n x more (OfExtension open_at close_at name o i c) e nw nb =
    not_first (Stands 91) open_at more ((name ++ close_at ∷ []) ++ x) nb (sym e) o
name_front n x more (OfType open_at slash close_at domain name o d s i c) e nw nb =
    not_first (Stands 91) open_at more ((domain ++ slash ∷ name ++ close_at ∷ []) ++ x) nb (sym e) o

-- no name begins with a bracket, words that break off, and what is no word
in_words : (n x words more : List Piece) (open_at : Piece) → Stands 91 open_at → IsStarted words → NotFirst IsWord more
    → IsName n → n ++ x ≡ open_at ∷ (words ++ more) → ⊥
in_words n x words more open_at' o' started nw (OfField word w) e = no_word_open word open_at' _ _ w o' e
in_words n x words more open_at' o' started nw (OfExtension open_at close_at name o i c) e =
    started_never words name more (close_at ∷ x) started i (no_dot_close close_at c) nw
    (sym (inner_words name x close_at) ∙ tails open_at open_at' _ _ e)
in_words n x words more open_at' o' started nw (OfType open_at slash close_at domain name o d s i c) e =
    started_never words domain more _ started d (no_dot_slash slash s) nw
    (sym (inner_type domain name x slash close_at) ∙ tails open_at open_at' _ _ e)

in_type : (n x domain words more : List Piece) (open_at slash : Piece) → Stands 91 open_at → IsDotted domain
    → Stands 47 slash → IsStarted words → NotFirst IsWord more
    → IsName n → n ++ x ≡ open_at ∷ (domain ++ (slash ∷ (words ++ more))) → ⊥
in_type n x domain words more open_at' slash' o' d' s' started nw (OfField word w) e = no_word_open word open_at' _ _ w o' e
in_type n x domain words more open_at' slash' o' d' s' started nw (OfExtension open_at close_at name o i c) e =
    let inner = dotted_same name domain (close_at ∷ x) (slash' ∷ (words ++ more)) i d'
    (sym (inner_words name x close_at) ∙ tails open_at open_at' _ _ e) (no_dot_close close_at c) (no_dot_slash slash' s') in
    close_slash close_at slash' _ _ c s' inner.1
in_type n x domain words more open_at' slash' o' d' s' started nw (OfType open_at slash close_at domain' name o d s i c) e =
    let inner = dotted_same domain' domain (slash ∷ (name ++ (close_at ∷ x))) (slash' ∷ (words ++ more)) d d'
    (sym (inner_type domain' name x slash close_at) ∙ tails open_at open_at' _ _ e) (no_dot_slash slash s) (no_dot_slash slash' s') in
    started_never words name more (close_at ∷ x) started i (no_dot_close close_at c) nw (tails slash slash' _ _ inner.1)

behind_words : (n x words more : List Piece) (open_at : Piece) → Stands 91 open_at → IsDotted words
    → NotFirst (Stands 46) more → NotFirst (Stands 47) more → NotFirst (Stands 93) more
    → IsName n → n ++ x ≡ open_at ∷ (words ++ more) → ⊥
behind_words n x words more open_at' o' d' a b k (OfField word w) e = no_word_open word open_at' _ _ w o' e
behind_words n x words more open_at' o' d' a b k (OfExtension open_at close_at name o i c) e =
    let inner = dotted_same name words (close_at ∷ x) more i d'
    (sym (inner_words name x close_at) ∙ tails open_at open_at' _ _ e) (no_dot_close close_at c) a in
    not_first (Stands 93) close_at more x k (sym inner.1) c
behind_words n x words more open_at' o' d' a b k (OfType open_at slash close_at domain name o d s i c) e =
    let inner = dotted_same domain words (slash ∷ (name ++ (close_at ∷ x))) more d d'
    (sym (inner_type domain name x slash close_at) ∙ tails open_at open_at' _ _ e) (no_dot_slash slash s) a in
    not_first (Stands 47) slash more _ b (sym inner.1) s

behind_type : (n x domain words more : List Piece) (open_at slash : Piece) → Stands 91 open_at → IsDotted domain
    → Stands 47 slash → IsDotted words → NotFirst (Stands 46) more → NotFirst (Stands 93) more
    → IsName n → n ++ x ≡ open_at ∷ (domain ++ (slash ∷ (words ++ more))) → ⊥
behind_type n x domain words more open_at' slash' o' d' s' i' a k (OfField word w) e = no_word_open word open_at' _ _ w o' e
behind_type n x domain words more open_at' slash' o' d' s' i' a k (OfExtension open_at close_at name o i c) e =
    let inner = dotted_same name domain (close_at ∷ x) (slash' ∷ (words ++ more)) i d'
    (sym (inner_words name x close_at) ∙ tails open_at open_at' _ _ e) (no_dot_close close_at c) (no_dot_slash slash' s') in
    close_slash close_at slash' _ _ c s' inner.1
behind_type n x domain words more open_at' slash' o' d' s' i' a k (OfType open_at slash close_at domain' name o d s i c) e =
    let outer = dotted_same domain' domain (slash ∷ (name ++ (close_at ∷ x))) (slash' ∷ (words ++ more)) d d'
    (sym (inner_type domain' name x slash close_at) ∙ tails open_at open_at' _ _ e) (no_dot_slash slash s) (no_dot_slash slash' s') in
    let inner = dotted_same name words (close_at ∷ x) more i i' (tails slash slash' _ _ outer.1) (no_dot_close close_at c) a in
    not_first (Stands 93) close_at more x k (sym inner.1) c

-- No name begins with what is read of one that breaks off.
pub name_never : (kind : TextFaultKind) (before more n x : List Piece) → IsBroken kind before more → IsName n
    → n ++ x ≡ before ++ more → ⊥
name_never kind before more n x (AtFront left w o) name e = name_front n x more name e w o
name_never kind before more n x (InWords open_at words left o s w) name e =
    in_words n x words more open_at o s w name e
name_never kind before more n x (InType open_at slash domain words left o d i s w) name e =
    in_type n x domain words more open_at slash o d i s w name (e ∙ ap (λ (y : List Piece). open_at ∷ y) (append_assoc domain (slash ∷ words) more))
name_never kind before more n x (BehindWords open_at words left o d a b c) name e =
    behind_words n x words more open_at o d a b c name e
name_never kind before more n x (BehindType open_at slash domain words left o d i s a c) name e =
    behind_type n x domain words more open_at slash o d i s a c name (e ∙ ap (λ (y : List Piece). open_at ∷ y) (append_assoc domain (slash ∷ words) more))

-- ---- how a name goes on

type_word : (domain words : List Piece) (slash piece : Piece)
    → domain ++ slash ∷ (words ++ piece ∷ []) ++ closing ∷ [] ≡ (domain ++ slash ∷ words) ++ piece ∷ closing ∷ []
type_word domain words slash piece = simp append_assoc

-- a name goes on with a word where one is wanted
pub word_completes : (before wrong : List Piece) (piece : Piece) → IsBroken NoWord before wrong → IsWord piece
    → (behind : List Piece) × IsName (before ++ piece ∷ behind)
word_completes before wrong piece (AtFront left w o) is = ([], OfField piece is)
word_completes before wrong piece (InWords open_at words left o s w) is = (
  closing ∷ [],
  subst (λ (y : List Piece). IsName (open_at ∷ y)) (append_assoc words (piece ∷ []) (closing ∷ []))
      (OfExtension open_at closing (words ++ piece ∷ []) o (started_word words piece s is) closes),
)
word_completes before wrong piece (InType open_at slash domain words left o d i s w) is = (
  closing ∷ [],
  subst (λ (y : List Piece). IsName (open_at ∷ y)) (type_word domain words slash piece)
      (OfType open_at slash closing domain (words ++ piece ∷ []) o d i (started_word words piece s is) closes),
)

pub mark_completes : (mark : ℕ) (before wrong : List Piece) (piece : Piece) → IsBroken (NoMark mark) before wrong
    → Stands mark piece → IsName (before ++ piece ∷ [])
mark_completes mark before wrong piece (BehindWords open_at words left o d a b c) is =
    OfExtension open_at piece words o d is
mark_completes mark before wrong piece (BehindType open_at slash domain words left o d i s a c) is =
    OfType open_at slash piece domain words o d i s is

-- ---- what the reader of names knows

pub named_word : (pieces more : List Piece) → Begins IsWord pieces more → IsNamed pieces more
named_word pieces more word = record {
  name = word.piece ∷ [];
  cut = word.cut;
  is_name = OfField word.piece word.is;
}

pub unnamed : (pieces : List Piece) → NotFirst IsWord pieces → NotFirst (Stands 91) pieces → IsUnnamed pieces pieces NoWord
unnamed pieces w o = record { before = []; cut = refl; broken = AtFront pieces w o }

pub named_bracket : (pieces more next : List Piece) → Begins (Stands 91) pieces more → IsNamedInBrackets more next → IsNamed pieces next
named_bracket pieces more next o named =
    subst (λ (x : List Piece). IsNamed x next) (sym o.cut) (named o.piece o.is)

pub unnamed_bracket : (pieces more wrong : List Piece) (kind : TextFaultKind) → Begins (Stands 91) pieces more
    → IsUnnamedInBrackets more wrong kind → IsUnnamed pieces wrong kind
unnamed_bracket pieces more wrong kind o named =
    subst (λ (x : List Piece). IsUnnamed x wrong kind) (sym o.cut) (named o.piece o.is)

pub named_words : (pieces more next : List Piece) → Words pieces more → Begins (Stands 93) more next → IsNamedInBrackets pieces next
named_words pieces more next w c open_at o = record {
  name = open_at ∷ w.words ++ c.piece ∷ [];
  cut = ap (λ (x : List Piece). open_at ∷ x) (w.cut ∙ (ap (λ (x : List Piece). w.words ++ x) c.cut ∙ sym (inner_words w.words next c.piece)));
  is_name = OfExtension open_at c.piece w.words o w.dotted c.is;
}

pub named_type : (pieces more name others next : List Piece) → Words pieces more → Begins (Stands 47) more name
    → Words name others → Begins (Stands 93) others next → IsNamedInBrackets pieces next
named_type pieces more name others next d s w c open_at o = record {
  name = open_at ∷ d.words ++ s.piece ∷ w.words ++ c.piece ∷ [];
  cut = ap (λ (x : List Piece). open_at ∷ x) (d.cut ∙ (ap (λ (x : List Piece). d.words ++ x)
      (s.cut ∙ ap (λ (x : List Piece). s.piece ∷ x) (w.cut ∙ ap (λ (x : List Piece). w.words ++ x) c.cut))
      ∙ sym (inner_type d.words w.words next s.piece c.piece)));
  is_name = OfType open_at s.piece c.piece d.words w.words o d.dotted s.is w.dotted c.is;
}

pub unnamed_words : (pieces wrong : List Piece) → NoWords pieces wrong → IsUnnamedInBrackets pieces wrong NoWord
unnamed_words pieces wrong n open_at o = record {
  before = open_at ∷ n.to.words;
  cut = ap (λ (x : List Piece). open_at ∷ x) n.to.cut;
  broken = InWords open_at n.to.words wrong o n.to.started n.ends;
}

pub unnamed_type : (pieces more name wrong : List Piece) → Words pieces more → Begins (Stands 47) more name
    → NoWords name wrong → IsUnnamedInBrackets pieces wrong NoWord
unnamed_type pieces more name wrong d s n open_at o = record {
  before = open_at ∷ d.words ++ s.piece ∷ n.to.words;
  cut = ap (λ (x : List Piece). open_at ∷ x) (d.cut ∙ (ap (λ (x : List Piece). d.words ++ x)
      (s.cut ∙ ap (λ (x : List Piece). s.piece ∷ x) n.to.cut) ∙ sym (append_assoc d.words (s.piece ∷ n.to.words) wrong)));
  broken = InType open_at s.piece d.words n.to.words wrong o d.dotted s.is n.to.started n.ends;
}

-- what is wrong where a bracket is wanted
unclosed_words : (pieces more : List Piece) → Words pieces more → NotFirst (Stands 47) more
    → NotFirst (Stands 93) more → IsUnnamedInBrackets pieces more (NoMark 93)
unclosed_words pieces more w s c open_at o = record {
  before = open_at ∷ w.words;
  cut = ap (λ (x : List Piece). open_at ∷ x) w.cut;
  broken = BehindWords open_at w.words more o w.dotted w.ends s c;
}

unclosed_type : (pieces more name others : List Piece) → Words pieces more → Begins (Stands 47) more name
    → Words name others → NotFirst (Stands 93) others → IsUnnamedInBrackets pieces others (NoMark 93)
unclosed_type pieces more name others d s w c open_at o = record {
  before = open_at ∷ d.words ++ s.piece ∷ w.words;
  cut = ap (λ (x : List Piece). open_at ∷ x) (d.cut ∙ (ap (λ (x : List Piece). d.words ++ x)
      (s.cut ∙ ap (λ (x : List Piece). s.piece ∷ x) w.cut) ∙ sym (append_assoc d.words (s.piece ∷ w.words) others)));
  broken = BehindType open_at s.piece d.words w.words others o d.dotted s.is w.dotted w.ends c;
}

-- the same where a function says so of its answer
pub closes_words : (pieces more wrong : List Piece) (kind : TextFaultKind) → Words pieces more
    → NotFirst (Stands 47) more → (wrong ≡ more) × (kind ≡ NoMark 93) × NotFirst (Stands 93) more
    → IsUnnamedInBrackets pieces wrong kind
closes_words pieces more wrong kind w s e =
    subst (λ (x : List Piece). IsUnnamedInBrackets pieces x kind) (sym e.0)
    (subst (λ (x : TextFaultKind). IsUnnamedInBrackets pieces more x) (sym e.1) (unclosed_words pieces more w s e.2))

pub closes_type : (pieces more name others wrong : List Piece) (kind : TextFaultKind) → Words pieces more
    → Begins (Stands 47) more name → Words name others
    → (wrong ≡ others) × (kind ≡ NoMark 93) × NotFirst (Stands 93) others
    → IsUnnamedInBrackets pieces wrong kind
closes_type pieces more name others wrong kind d s w e =
    subst (λ (x : List Piece). IsUnnamedInBrackets pieces x kind) (sym e.0)
    (subst (λ (x : TextFaultKind). IsUnnamedInBrackets pieces others x) (sym e.1) (unclosed_type pieces more name others d s w e.2))
