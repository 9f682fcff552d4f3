-- The lists of parts that the elements of a body bring, one list for each kind. All together they
-- take comments of the elements' rows.
use Rattle.std.proofs.Common.{◌+◌, ◌≤◌, List, [], ◌++◌, ℤ, arith}
use Rattle.protox_fault.specs.Faults.{Span}
use Rattle.protox_lexeme.specs.Shapes.{Rows}
use Rattle.protox_ast.specs.Places.{Place}
use Rattle.protox_locate.specs.LocationWords.{Part}
use Rattle.protox_generate.proofs.Taking.{Weights, Cost, free, weigh, weigh-append, Parts, parts-none, parts-append}

-- In a file, imports stand in the place of fields, services in the place of oneofs, and the package
-- in the place of extensions statements.
pub record Lists : Type 0 where
  pub fields : List Part
  pub messages : List Part
  pub enums : List Part
  pub blocks : List Part
  pub extensions : List Part
  pub oneofs : List Part
  pub options : List Part
  pub statements : List Part
  pub ranges : List Part
  pub names : List Part

abbrev pub joined : Lists → Lists → Lists
joined a b = record {
  fields = a.fields ++ b.fields;
  messages = a.messages ++ b.messages;
  enums = a.enums ++ b.enums;
  blocks = a.blocks ++ b.blocks;
  extensions = a.extensions ++ b.extensions;
  oneofs = a.oneofs ++ b.oneofs;
  options = a.options ++ b.options;
  statements = a.statements ++ b.statements;
  ranges = a.ranges ++ b.ranges;
  names = a.names ++ b.names;
}

pub record Bag (numbers : Span → List ℤ) (rows : Rows Place) (l : Lists) : Type 0 where
  pub fields : Cost
  pub messages : Cost
  pub enums : Cost
  pub blocks : Cost
  pub extensions : Cost
  pub oneofs : Cost
  pub options : Cost
  pub statements : Cost
  pub ranges : Cost
  pub names : Cost
  pub field_parts : Parts numbers l.fields fields
  pub message_parts : Parts numbers l.messages messages
  pub enum_parts : Parts numbers l.enums enums
  pub block_parts : Parts numbers l.blocks blocks
  pub extension_parts : Parts numbers l.extensions extensions
  pub oneof_parts : Parts numbers l.oneofs oneofs
  pub option_parts : Parts numbers l.options options
  pub statement_parts : Parts numbers l.statements statements
  pub range_parts : Parts numbers l.ranges ranges
  pub name_parts : Parts numbers l.names names
  pub within : (w : Weights) → fields w + messages w + enums w + blocks w + extensions w + oneofs w + options w + statements w + ranges w + names w ≤ weigh w rows

pub no : {numbers : Span → List ℤ} → Parts numbers [] free
no = parts-none free

module _ {numbers : Span → List ℤ} {l : Lists} {f m e b x o p t r n : Cost} where
  -- of the parts of each kind
  pub bag-of : (rows : Rows Place) → Parts numbers l.fields f → Parts numbers l.messages m → Parts numbers l.enums e → Parts numbers l.blocks b → Parts numbers l.extensions x → Parts numbers l.oneofs o → Parts numbers l.options p → Parts numbers l.statements t → Parts numbers l.ranges r → Parts numbers l.names n
      → ((w : Weights) → f w + m w + e w + b w + x w + o w + p w + t w + r w + n w ≤ weigh w rows) → Bag numbers rows l
  bag-of rows pf pm pe pb px po pp pt pr pn h = record {
    fields = f;
    messages = m;
    enums = e;
    blocks = b;
    extensions = x;
    oneofs = o;
    options = p;
    statements = t;
    ranges = r;
    names = n;
    field_parts = pf;
    message_parts = pm;
    enum_parts = pe;
    block_parts = pb;
    extension_parts = px;
    oneof_parts = po;
    option_parts = pp;
    statement_parts = pt;
    range_parts = pr;
    name_parts = pn;
    within = h;
  }

abbrev pub empty : Lists
empty = record { fields = []; messages = []; enums = []; blocks = []; extensions = []; oneofs = []; options = []; statements = []; ranges = []; names = [] }

pub bag-none : {numbers : Span → List ℤ} (rows : Rows Place) → Bag numbers rows empty
bag-none rows = bag-of rows no no no no no no no no no no (λ w. omega arith)

pub bag-more : {numbers : Span → List ℤ} (a rows : Rows Place) {l : Lists} → Bag numbers a l → ((w : Weights) → weigh w a ≤ weigh w rows) → Bag numbers rows l
bag-more a rows g more = bag-of rows g.field_parts g.message_parts g.enum_parts g.block_parts g.extension_parts g.oneof_parts g.option_parts g.statement_parts g.range_parts g.name_parts
    (λ w. omega (arith, g.within w, more w))

pub bag-append : {numbers : Span → List ℤ} (a b : Rows Place) {l m : Lists} → Bag numbers a l → Bag numbers b m → Bag numbers (a ++ b) (joined l m)
bag-append a b g h = bag-of (a ++ b)
    (parts-append g.field_parts h.field_parts) (parts-append g.message_parts h.message_parts) (parts-append g.enum_parts h.enum_parts) (parts-append g.block_parts h.block_parts)
    (parts-append g.extension_parts h.extension_parts) (parts-append g.oneof_parts h.oneof_parts) (parts-append g.option_parts h.option_parts) (parts-append g.statement_parts h.statement_parts)
    (parts-append g.range_parts h.range_parts) (parts-append g.name_parts h.name_parts)
    (λ w. omega (arith, g.within w, h.within w, weigh-append w a b))
