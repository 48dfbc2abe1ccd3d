-- An input that is at its end has no more to skip.
use Rattle.std.proofs.Common.{◌≡◌, ℕ, ◌+◌, ◌-◌, ◌≤◌, List, [], Option, None, Some, arith, drop, sym, ap, ◌∙◌, subst}
use Rattle.std.specs.Io.KnownBytes.{IsAtEnd}
use Rattle.std.proofs.lemmas.List.{drop_all, drop-drop}
use Rattle.filling.specs.Input.{Skips}

pub skips_end : (a b c : Option (List ℕ)) (done n count : ℕ) → done ≤ count → Skips a b done → n ≡ 0 → Skips b c n → IsAtEnd c → Skips a c count
skips_end None b c done n count h p z q e = tt
skips_end (Some xs) b c done n count h p z q e =
    let left : c ≡ Some (drop done xs) = subst (λ k. Skips k c 0) p (subst (Skips b c) z q) in
    let none : drop done xs ≡ [] = subst IsAtEnd left e in
    let same : done + (count - done) ≡ count = omega arith in
    let all : drop count xs ≡ drop done xs =
    ap (λ n. drop n xs) (sym same) ∙ sym (drop-drop (count - done) done xs) ∙ ap (drop (count - done)) none ∙ drop_all (count - done) [] (omega arith) ∙ sym none in
    left ∙ ap Some (sym all)
