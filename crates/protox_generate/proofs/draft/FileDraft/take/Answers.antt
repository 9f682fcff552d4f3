use Rattle.std.proofs.Common.{ℕ, List, ◌∷◌, [], ◌++◌, sym, subst}
use Rattle.std.proofs.lemmas.Result.{on_ok_weaker}
use Rattle.protox_describe.specs.File.{item_enums, item_extensions, item_messages, item_services}
use Rattle.protox_generate.specs.inner.Taken.{ArePlaced}
use Rattle.protox_generate.proofs.Items.{one_more_listed}
use Rattle.protox_generate.proofs.draft.FileDraft.take.Goals as goal

pub returns : goal.returns
returns c =
    let syntax = c.args.head.now.syntax in
    let item = c.args.item in
    let described = c.in_ok-describe_item.ensures in
    record {
      taken = on_ok_weaker c.locate.result
          (λ placed source items t. record {
            of_source = t.of_source;
            located =
                subst (λ (text : List ℕ). ArePlaced text (items ++ item ∷ []) c.locate.new.places) t.of_source
                (placed items (subst (λ (text : List ℕ). ArePlaced text items c.args.self.now.places) (sym t.of_source) t.located));
            messages = one_more_listed (item_messages syntax) items item _ _ t.messages described.messages;
            enums = one_more_listed item_enums items item _ _ t.enums described.enums;
            services = one_more_listed item_services items item _ _ t.services described.services;
            extensions = one_more_listed (item_extensions syntax) items item _ _ t.extensions described.extensions;
          }) c.locate.ensures.located;
    }
