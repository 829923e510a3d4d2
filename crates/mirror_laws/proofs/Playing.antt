-- A mirror's map changes as the register's objects do.
use Rattle.std.proofs.Common.{◌≡◌, ℕ, Bool, true, false, not, cond, List, [], ◌∷◌, ◌++◌, map, refl, ap, ◌∙◌}
use Rattle.reg_entry.specs.declared.object.Key.{Key}
use Rattle.reg_entry.specs.declared.object.Act.{Act}
use Rattle.reg_entry.specs.declared.object.Act.TheVariants.{Add, Del}
use Rattle.reg_entry.specs.declared.object.Object.{Object}
use Rattle.reg_entry.specs.Op.{PlainOp}
use Rattle.reg_entry.specs.Objects.{key_of, key_before, has_key, with_object, without_key, changed, played}
use Rattle.reg_entry.specs.Operations.{change_of, objects_after}
use Rattle.rpsl_text.specs.Plain.{plain_attributes}
use Rattle.mirror_core.specs.Objects.{with_attributes, without_object, operated, mirrored}
use Rattle.mirror_laws.proofs.Lines.{Objects}

chosen : {A B : Type 0} (f : A → B) (b : Bool) (x y : A) → cond b (f x) (f y) ≡ f (cond b x y)
chosen f true x y = refl
chosen f false x y = refl

with_same : (source : List ℕ) (os : List Object) (o : Object)
    → with_attributes (map (mirrored source) os) (key_of o) (plain_attributes o source) ≡ map (mirrored source) (with_object os o)
with_same source [] o = refl
with_same source (p ∷ os) o =
    let new : Objects = mirrored source o ∷ map (mirrored source) (p ∷ os) in
    ap (λ (rest : Objects). cond (has_key (key_of o) p) (mirrored source o ∷ map (mirrored source) os) (cond (key_before (key_of o) (key_of p)) new (mirrored source p ∷ rest))) (with_same source os o)
    ∙ ap (λ (rest : Objects). cond (has_key (key_of o) p) (mirrored source o ∷ map (mirrored source) os) rest)
    (chosen (map (mirrored source)) (key_before (key_of o) (key_of p)) (o ∷ p ∷ os) (p ∷ with_object os o))
    ∙ chosen (map (mirrored source)) (has_key (key_of o) p) (o ∷ os) (cond (key_before (key_of o) (key_of p)) (o ∷ p ∷ os) (p ∷ with_object os o))

without_same : (source : List ℕ) (os : List Object) (k : Key) → without_object (map (mirrored source) os) k ≡ map (mirrored source) (without_key os k)
without_same source [] k = refl
without_same source (p ∷ os) k =
    ap (λ (rest : Objects). cond (not (has_key k p)) (mirrored source p ∷ rest) rest) (without_same source os k)
    ∙ chosen (map (mirrored source)) (not (has_key k p)) (p ∷ without_key os k) (without_key os k)

pub operated_same : (source : List ℕ) (os : List Object) (act : Act) (o : Object)
    → operated (map (mirrored source) os) act (key_of o) (plain_attributes o source) ≡ map (mirrored source) (changed os (act, o))
operated_same source os Add o = with_same source os o
operated_same source os Del o = without_same source os (key_of o)

played_one : (os : List Object) (ops : List PlainOp) (op : PlainOp)
    → played os (map change_of (ops ++ op ∷ [])) ≡ changed (played os (map change_of ops)) (change_of op)
played_one os [] op = refl
played_one os (p ∷ ops) op = played_one (changed os (change_of p)) ops op

-- the objects after one operation more
pub after_one : (ops : List PlainOp) (op : PlainOp) → objects_after (ops ++ op ∷ []) ≡ changed (objects_after ops) (change_of op)
after_one ops op = played_one [] ops op
