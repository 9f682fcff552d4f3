-- The laws of services.
use Rattle.std.proofs.Common.{◌≡◌, false, List, [], ◌∷◌, ◌++◌, Option, Some, None, codes, refl, inl, inr, ◌⊎◌}
use Rattle.protox_grammar.specs.Class.{none, words, union, among, just_word, just_mark, but_mark, among_words, among_marks, mark, word}
use Rattle.protox_grammar.specs.Rule.{seq, unless, choice, times}
use Rattle.protox_ast.specs.Tree as t
use Rattle.protox_ast.specs.Spelling as s
use Rattle.protox_ast.specs.KeywordWalk as k
use Rattle.protox_grammar.specs.Rules as r
use Rattle.protox_grammar.proofs.Begin.{name-stops, stops-name}
use Rattle.protox_grammar.proofs.Forms.{Lawful, word-laws, mark-laws, seq-laws, unless-laws, choice-laws, times-laws, named-laws, wide}
use Rattle.protox_grammar.proofs.Parts as parts
use Rattle.protox_grammar.proofs.Options as options

module _ {M : Type 0} (m : M) where
  stream-back : (o : Option M) (n : t.TypeName M) → r.to_rpc_type (r.streamed o n) ≡ record { stream = o; name = n }
  stream-back None n = refl
  stream-back (Some c) n = refl

  rpc_type-there : (x : (M × t.TypeName M) ⊎ t.TypeName M) → r.from_rpc_type (r.to_rpc_type x) ≡ x
  rpc_type-there (inl x) = refl
  rpc_type-there (inr x) = refl

  stream-is : (o : Option M) (n : t.TypeName M) → s.maybe (s.keyword (codes "stream")) o ++ s.typename n ≡ (unless (among_words (codes "stream" ∷ [])) (seq (r.the (codes "stream")) r.typename) r.typename).spell (r.streamed o n)
  unfolding r.typename
  stream-is None n = refl
  stream-is (Some c) n = refl

  stream-obeys : (o : Option M) (n : t.TypeName M) → k.Unstreamed o n → (unless (among_words (codes "stream" ∷ [])) (seq (r.the (codes "stream")) r.typename) r.typename).may (r.streamed o n)
  unfolding r.typename
  stream-obeys None n h = (tt, name-stops (codes "stream" ∷ []) refl refl n h)
  stream-obeys (Some c) n h = (tt, tt)

  stream-allows : (o : Option M) (n : t.TypeName M) → (unless (among_words (codes "stream" ∷ [])) (seq (r.the (codes "stream")) r.typename) r.typename).may (r.streamed o n) → k.Unstreamed o n
  unfolding r.typename
  stream-allows None n h = stops-name (codes "stream" ∷ []) refl refl n h.1
  stream-allows (Some c) n h = tt

  pub rpc_type-laws : Lawful {M = M} r.rpc_type false (union (just_mark s.dot) words) (just_mark s.dot)
  unfolding r.rpc_type r.typename
  rpc_type-laws = wide _ _ (named-laws s.rpc_type k.BeginsWithNoStream r.to_rpc_type r.from_rpc_type (λ x. stream-back x.stream x.name) rpc_type-there
      (λ x. stream-is x.stream x.name) (λ x h. stream-obeys x.stream x.name h) (λ x h. stream-allows x.stream x.name h) (λ x h. h)
      (unless-laws (among_words (codes "stream" ∷ [])) (seq-laws (word-laws m (codes "stream")) (parts.typename-laws m) refl) refl (parts.typename-laws m) (parts.some_name m) tt refl)) refl refl

  rpc_element-back : (x : t.RpcElement M) → r.to_rpc_element (r.from_rpc_element x) ≡ x
  rpc_element-back (t.rpc_empty a) = refl
  rpc_element-back (t.rpc_option a) = refl

  rpc_element-there : (x : M ⊎ t.OptionStatement M) → r.from_rpc_element (r.to_rpc_element x) ≡ x
  rpc_element-there (inl x) = refl
  rpc_element-there (inr x) = refl

  rpc_element-is : (x : t.RpcElement M) → s.rpc_element x ≡ (choice (just_mark s.semicolon) (r.sign s.semicolon) r.option).spell (r.from_rpc_element x)
  unfolding r.rpc_element r.option
  rpc_element-is (t.rpc_empty a) = refl
  rpc_element-is (t.rpc_option a) = refl

  rpc_element-obeys : (x : t.RpcElement M) → k.KeepsRpcElement x → (choice (just_mark s.semicolon) (r.sign s.semicolon) r.option).may (r.from_rpc_element x)
  unfolding r.rpc_element r.option
  rpc_element-obeys (t.rpc_empty a) h = tt
  rpc_element-obeys (t.rpc_option a) h = h

  rpc_element-allows : (x : t.RpcElement M) → (choice (just_mark s.semicolon) (r.sign s.semicolon) r.option).may (r.from_rpc_element x) → k.KeepsRpcElement x
  unfolding r.rpc_element r.option
  rpc_element-allows (t.rpc_empty a) h = tt
  rpc_element-allows (t.rpc_option a) h = h

  pub rpc_element-laws : Lawful {M = M} r.rpc_element false (among (mark s.semicolon ∷ word (codes "option") ∷ [])) none
  unfolding r.rpc_element r.option
  rpc_element-laws = wide _ _ (named-laws s.rpc_element k.KeepsRpcElement _ _ rpc_element-back rpc_element-there rpc_element-is
      rpc_element-obeys rpc_element-allows (λ x h. h)
      (choice-laws (just_mark s.semicolon) (mark-laws m s.semicolon) refl (options.option-laws m) refl)) refl refl

  rpc_end-back : (x : t.RpcEnd M) → r.to_rpc_end (r.from_rpc_end x) ≡ x
  rpc_end-back (t.rpc_semicolon a) = refl
  rpc_end-back (t.rpc_braces a b c) = refl

  rpc_end-there : (x : M ⊎ (M × (List (t.RpcElement M) × M))) → r.from_rpc_end (r.to_rpc_end x) ≡ x
  rpc_end-there (inl x) = refl
  rpc_end-there (inr x) = refl

  rpc_end-is : (x : t.RpcEnd M) → s.rpc_end x ≡ (choice (just_mark s.semicolon) (r.sign s.semicolon) (seq (r.sign s.open_brace) (seq (times (but_mark s.close_brace) r.rpc_element) (r.sign s.close_brace)))).spell (r.from_rpc_end x)
  unfolding r.rpc_end r.rpc_element
  rpc_end-is (t.rpc_semicolon a) = refl
  rpc_end-is (t.rpc_braces a b c) = refl

  rpc_end-obeys : (x : t.RpcEnd M) → k.KeepsRpcEnd x → (choice (just_mark s.semicolon) (r.sign s.semicolon) (seq (r.sign s.open_brace) (seq (times (but_mark s.close_brace) r.rpc_element) (r.sign s.close_brace)))).may (r.from_rpc_end x)
  unfolding r.rpc_end r.rpc_element
  rpc_end-obeys (t.rpc_semicolon a) h = tt
  rpc_end-obeys (t.rpc_braces a b c) h = (tt, (h, tt))

  rpc_end-allows : (x : t.RpcEnd M) → (choice (just_mark s.semicolon) (r.sign s.semicolon) (seq (r.sign s.open_brace) (seq (times (but_mark s.close_brace) r.rpc_element) (r.sign s.close_brace)))).may (r.from_rpc_end x) → k.KeepsRpcEnd x
  unfolding r.rpc_end r.rpc_element
  rpc_end-allows (t.rpc_semicolon a) h = tt
  rpc_end-allows (t.rpc_braces a b c) h = h.1.0

  pub rpc_end-laws : Lawful {M = M} r.rpc_end false (among_marks (s.semicolon ∷ s.open_brace ∷ [])) none
  unfolding r.rpc_end r.rpc_element
  rpc_end-laws = wide _ _ (named-laws s.rpc_end k.KeepsRpcEnd _ _ rpc_end-back rpc_end-there rpc_end-is
      rpc_end-obeys rpc_end-allows (λ x h. h)
      (choice-laws (just_mark s.semicolon) (mark-laws m s.semicolon) refl (seq-laws (mark-laws m s.open_brace) (seq-laws (times-laws (but_mark s.close_brace) rpc_element-laws refl refl) (mark-laws m s.close_brace) refl) refl) refl)) refl refl

  pub rpc-laws : Lawful {M = M} r.rpc false (just_word (codes "rpc")) none
  unfolding r.rpc r.rpc_type r.rpc_end
  rpc-laws = wide _ _ (named-laws s.rpc k.KeepsRpc _ _ (λ x. refl) (λ x. refl) (λ x. refl)
      (λ x h. (tt, (tt, (tt, (h.0, (tt, (tt, (tt, (h.1, (tt, h.2)))))))))) (λ x h. (h.1.1.1.0, h.1.1.1.1.1.1.1.0, h.1.1.1.1.1.1.1.1.1)) (λ x h. h)
      (seq-laws (word-laws m (codes "rpc")) (seq-laws (parts.ident-laws m) (seq-laws (mark-laws m s.open_paren) (seq-laws rpc_type-laws (seq-laws (mark-laws m s.close_paren) (seq-laws (word-laws m (codes "returns")) (seq-laws (mark-laws m s.open_paren) (seq-laws rpc_type-laws (seq-laws (mark-laws m s.close_paren) rpc_end-laws refl) refl) refl) refl) refl) refl) refl) refl) refl)) refl refl

  service_element-back : (x : t.ServiceElement M) → r.to_service_element (r.from_service_element x) ≡ x
  service_element-back (t.service_empty a) = refl
  service_element-back (t.service_option a) = refl
  service_element-back (t.service_rpc a) = refl

  service_element-there : (x : M ⊎ (t.OptionStatement M ⊎ t.Rpc M)) → r.from_service_element (r.to_service_element x) ≡ x
  service_element-there (inl x) = refl
  service_element-there (inr (inl x)) = refl
  service_element-there (inr (inr x)) = refl

  service_element-is : (x : t.ServiceElement M) → s.service_element x ≡ (choice (just_mark s.semicolon) (r.sign s.semicolon) (choice (just_word (codes "option")) r.option r.rpc)).spell (r.from_service_element x)
  unfolding r.service_element r.option r.rpc
  service_element-is (t.service_empty a) = refl
  service_element-is (t.service_option a) = refl
  service_element-is (t.service_rpc a) = refl

  service_element-obeys : (x : t.ServiceElement M) → k.KeepsServiceElement x → (choice (just_mark s.semicolon) (r.sign s.semicolon) (choice (just_word (codes "option")) r.option r.rpc)).may (r.from_service_element x)
  unfolding r.service_element r.option r.rpc
  service_element-obeys (t.service_empty a) h = tt
  service_element-obeys (t.service_option a) h = h
  service_element-obeys (t.service_rpc a) h = h

  service_element-allows : (x : t.ServiceElement M) → (choice (just_mark s.semicolon) (r.sign s.semicolon) (choice (just_word (codes "option")) r.option r.rpc)).may (r.from_service_element x) → k.KeepsServiceElement x
  unfolding r.service_element r.option r.rpc
  service_element-allows (t.service_empty a) h = tt
  service_element-allows (t.service_option a) h = h
  service_element-allows (t.service_rpc a) h = h

  pub service_element-laws : Lawful {M = M} r.service_element false (among (mark s.semicolon ∷ word (codes "option") ∷ word (codes "rpc") ∷ [])) none
  unfolding r.service_element r.option r.rpc
  service_element-laws = wide _ _ (named-laws s.service_element k.KeepsServiceElement _ _ service_element-back service_element-there service_element-is
      service_element-obeys service_element-allows (λ x h. h)
      (choice-laws (just_mark s.semicolon) (mark-laws m s.semicolon) refl (choice-laws (just_word (codes "option")) (options.option-laws m) refl rpc-laws refl) refl)) refl refl

  pub service-laws : Lawful {M = M} r.service false (just_word (codes "service")) none
  unfolding r.service r.service_element
  service-laws = wide _ _ (named-laws s.service k.KeepsService _ _ (λ x. refl) (λ x. refl) (λ x. refl)
      (λ x h. (tt, (tt, (tt, (h, tt))))) (λ x h. h.1.1.1.0) (λ x h. h)
      (seq-laws (word-laws m (codes "service")) (seq-laws (parts.ident-laws m) (seq-laws (mark-laws m s.open_brace) (seq-laws (times-laws (but_mark s.close_brace) service_element-laws refl refl) (mark-laws m s.close_brace) refl) refl) refl) refl)) refl refl
