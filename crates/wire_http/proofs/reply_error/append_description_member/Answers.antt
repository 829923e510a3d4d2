use Rattle.std.proofs.Common.{◌≡◌, ℕ, List, ◌++◌, ◌∙◌, ap, append_assoc}
use Rattle.wire_http.proofs.reply_error.append_description_member.Goals as goal

-- three texts appended one after the other are one text appended
joined : (out a b c x y z : List ℕ) → a ≡ out ++ x → b ≡ a ++ y → c ≡ b ++ z → c ≡ out ++ (x ++ (y ++ z))
joined out a b c x y z first second third =
    third ∙ ap (λ l. l ++ z) second ∙ ap (λ l. (l ++ y) ++ z) first ∙ append_assoc (out ++ x) y z ∙ append_assoc out x (y ++ z)

pub returns-clause-text : goal.returns-clause-text
returns-clause-text c =
    joined c.args.out.now.items _ _ _ _ _ _ c.append.ensures.text c.append_description.ensures.text c.append-2.ensures.text
