-- What an entry changes in the objects of a register, from what it names and the pieces that it touches.
use Rattle.std.specs.Prelude.{ℕ, if◌then◌else◌, List, [], ◌∷◌, ◌++◌, Option, None, Some, find, map}
use Rattle.std.specs.List.{flat_map}
use Rattle.std.specs.Option.{option_map_or}
use Rattle.num_range.specs.Range.{PlainRange}
use Rattle.reg_entry.specs.declared.holder.Holder.{Holder}
use Rattle.reg_entry.specs.declared.object.Object.{Object}
use Rattle.reg_entry.specs.declared.object.Object.TheVariants.{Org, Sub}
use Rattle.reg_entry.specs.declared.object.Act.{Act}
use Rattle.reg_entry.specs.declared.object.Act.TheVariants.{Add, Del}
use Rattle.reg_entry.specs.declared.piece.Piece.{Piece}
use Rattle.reg_entry.specs.declared.request.Request.{Request}
use Rattle.reg_entry.specs.declared.request.Request.TheVariants.{AddHolder, EditHolder, SubAssign, SubReturn, Return, SetReverse, ClearReverse}
use Rattle.reg_entry.specs.declared.sub_card.SubCard.{SubCard}
use Rattle.reg_entry.specs.Holders.{has_handle}
use Rattle.reg_entry.specs.Objects.{same_object, org_of, blocks_of, sub_of, cuts_of}
use Rattle.reg_entry.specs.Ranges.{value_of_range, ranges_inside}
use Rattle.reg_entry.specs.Servers.{hosts_eq}
use Rattle.op_feed.specs.PieceChanges.{pieces_gone, pieces_come}

abbrev pub dels : List Object → List (Act × Object)
dels os = map (λ o. (Del, o)) os

abbrev pub adds : List Object → List (Act × Object)
adds os = map (λ o. (Add, o)) os

-- a holder gets fields, where it has others or has them since another day
abbrev pub edit_changes : Option (Holder × ℕ) → Holder → ℕ → List (Act × Object)
edit_changes None holder day = []
edit_changes (Some former) holder day =
    if same_object (Org holder day) (org_of former) then [] else adds (Org holder day ∷ [])

-- a range gets name servers, where it has none or others
abbrev pub server_changes : PlainRange → Option (List (List ℕ)) → List (List ℕ) → List (Act × Object)
server_changes range None servers = adds (cuts_of (range, servers))
server_changes range (Some former) servers = if hosts_eq servers former then [] else adds (cuts_of (range, servers))

-- Of the register before the entry: its holders, subs and reverse entries. Of the pieces: those that the entry changes, and
-- those that stand there after it.
abbrev pub entry_changes : List (Holder × ℕ) → List (PlainRange × SubCard) → List (PlainRange × List (List ℕ)) → ℕ
    → List Piece → List Piece → Request → List (Act × Object)
entry_changes hs subs reverses day before after (AddHolder holder) = adds (Org holder day ∷ [])
entry_changes hs subs reverses day before after (EditHolder holder) = edit_changes (find (has_handle holder.handle) hs) holder day
entry_changes hs subs reverses day before after (SubAssign range handle) = adds (Sub range handle day ∷ [])
entry_changes hs subs reverses day before after (SubReturn range) =
    option_map_or (λ card. dels (sub_of hs (range, card) ∷ [])) (value_of_range subs range) []
entry_changes hs subs reverses day before after (SetReverse range servers) =
    server_changes range (value_of_range reverses range) servers
entry_changes hs subs reverses day before after (ClearReverse range) =
    option_map_or (λ servers. dels (cuts_of (range, servers))) (value_of_range reverses range) []
-- the reverse entries of a returned range go with it
entry_changes hs subs reverses day before after (Return range handle) =
    dels (blocks_of hs (pieces_gone before after)) ++ (dels (flat_map cuts_of (ranges_inside reverses range))
    ++ adds (blocks_of hs (pieces_come before after)))
entry_changes hs subs reverses day before after request =
    dels (blocks_of hs (pieces_gone before after)) ++ adds (blocks_of hs (pieces_come before after))
