-- In each listed fault the word is held at the one place. So each listed fault is one of the file,
-- and each fault of the file is listed.
use Rattle.std.proofs.Common.{◌≡◌, List, [], ◌∷◌, map, inl, inr, Contains, sym, ap, subst, ◌∙◌}
use Rattle.std.specs.Prelude.{◌&&◌}
use Rattle.protox_fault.specs.declared.error.ParseErrorKind.{ParseErrorKind}
use Rattle.protox_fault.specs.declared.error.ParseErrorKind.TheVariants as fault
use Rattle.protox_ast.specs.declared.ast.File.{File}
use Rattle.protox_checks.specs.Checks.{file_faults, AreListed}
use Rattle.protox_checks.specs.Faults.{EachIsWrong, HasEachWrong, IsFaultless, IsSame, Wrong, settled}
use Rattle.protox_checks.proofs.FaultLaw.{listed-if-wrong, wrong-if-listed}
use Rattle.protox_checks.proofs.Membership.{Among, Somewhere, among-each, among-from, any-from, contains-from}

-- ---- a file

pub none-listed : (file : File) → file_faults file ≡ [] → IsFaultless file
none-listed file e wrong h = among-from [] (settled wrong) (subst (λ l. Contains l (settled wrong)) e (listed-if-wrong file wrong h))

-- ---- found faults

among-settled : (xs : List ParseErrorKind) (x : ParseErrorKind) → Among xs x → Among (map settled xs) (settled x)
among-settled [] x a = absurd a
among-settled (y ∷ ys) x (inl e) = inl (ap settled e)
among-settled (y ∷ ys) x (inr a) = inr (among-settled ys x a)

somewhere-settled : (xs : List ParseErrorKind) (wrong : ParseErrorKind) → Among (map settled xs) (settled wrong) → Somewhere (IsSame wrong) xs
somewhere-settled [] wrong a = absurd a
somewhere-settled (y ∷ ys) wrong (inl e) = inl (sym e)
somewhere-settled (y ∷ ys) wrong (inr a) = inr (somewhere-settled ys wrong a)

pub found-wrong : (file : File) (found : List ParseErrorKind) → AreListed file found → EachIsWrong file found
found-wrong file found e =
    among-each (Wrong file) found (λ wrong a. wrong-if-listed file wrong (contains-from (file_faults file) (settled wrong) (subst (λ l. Among l (settled wrong)) e (among-settled found wrong a))))

pub found-all : (file : File) (found : List ParseErrorKind) → AreListed file found → HasEachWrong file found
found-all file found e wrong w =
    any-from (IsSame wrong) found (somewhere-settled found wrong (subst (λ l. Among l (settled wrong)) (sym e) (among-from (file_faults file) (settled wrong) (listed-if-wrong file wrong w))))
