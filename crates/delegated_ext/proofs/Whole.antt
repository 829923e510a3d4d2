-- The file from its parts: the lines above the records, and the records of the three spaces.
use Rattle.std.proofs.Common.{◌≡◌, ℕ, List, [], ◌++◌, length, append_assoc, sym, ◌∙◌, ap}
use Rattle.std.specs.List.{flat_map}
use Rattle.num_range.specs.declared.space.Space.{Space}
use Rattle.num_range.specs.declared.space.Space.TheVariants.{Asn, Ipv4, Ipv6}
use Rattle.reg_entry.specs.declared.holder.Holder.{Holder}
use Rattle.reg_entry.specs.Partition.{Partition, pieces_in}
use Rattle.reg_entry.specs.Register.{Register}
use Rattle.delegated_ext.specs.Records.{piece_records, records_in, record_lines}
use Rattle.delegated_ext.specs.StatisticsText.{record_text, version_line, summary_of, statistics_text}
use Rattle.delegated_ext.proofs.Appended.{texts_of_spaces}

-- four texts, appended one after the other
pub four_appended : (u v w x y a b c d : List ℕ) → v ≡ u ++ a → w ≡ v ++ b → x ≡ w ++ c → y ≡ x ++ d → y ≡ u ++ (a ++ (b ++ (c ++ d)))
four_appended u v w x y a b c d first second third fourth =
    fourth
    ∙ ap (λ (t : List ℕ). t ++ d) (third ∙ ap (λ (t : List ℕ). t ++ c) (second ∙ ap (λ (t : List ℕ). t ++ b) first))
    ∙ append_assoc ((u ++ a) ++ b) c d
    ∙ append_assoc (u ++ a) b (c ++ d)
    ∙ append_assoc u a (b ++ (c ++ d))

-- what a book's count is, where the book is the register's
pub count_in_register : (r : Register) (pool : Partition) (space : Space) (count : ℕ) → pool ≡ r.pool
    → count ≡ length (flat_map piece_records (pieces_in pool space)) → count ≡ length (records_in r space)
count_in_register r pool space count e is = is ∙ ap (λ (p : Partition). length (flat_map piece_records (pieces_in p space))) e

-- what the text of a space is, where the books are the register's
pub text_in_register : (registry : List ℕ) (r : Register) (holders : List (Holder × ℕ)) (pool : Partition) (space : Space) → holders ≡ r.holders
    → pool ≡ r.pool
    → flat_map (record_text registry holders) (flat_map piece_records (pieces_in pool space)) ≡ flat_map (record_text registry r.holders) (records_in r space)
text_in_register registry r holders pool space same e =
    ap (λ (hs : List (Holder × ℕ)). flat_map (record_text registry hs) (flat_map piece_records (pieces_in pool space))) same
    ∙ ap (λ (p : Partition). flat_map (record_text registry r.holders) (flat_map piece_records (pieces_in p space))) e

joined : (a b c d e : List ℕ) → (a ++ (b ++ (c ++ d))) ++ e ≡ a ++ b ++ c ++ d ++ e
joined a b c d e = ap (λ (t : List ℕ). t ++ e) (sym (append_assoc (a ++ b) c d ∙ append_assoc a b (c ++ d)))

abbrev pub head_text : List ℕ → Register → List ℕ
head_text registry r = version_line registry r ++ (summary_of registry r Asn ++ (summary_of registry r Ipv4 ++ summary_of registry r Ipv6))

abbrev pub space_text : List ℕ → Register → Space → List ℕ
space_text registry r space = flat_map (record_text registry r.holders) (records_in r space)

pub file_of_parts : (registry : List ℕ) (r : Register) (u v w x y : List ℕ) → u ≡ [] → v ≡ u ++ head_text registry r
    → w ≡ v ++ space_text registry r Asn → x ≡ w ++ space_text registry r Ipv4 → y ≡ x ++ space_text registry r Ipv6
    → y ≡ statistics_text r registry
file_of_parts registry r u v w x y none head asn ipv4 ipv6 =
    four_appended u v w x y (head_text registry r) (space_text registry r Asn) (space_text registry r Ipv4) (space_text registry r Ipv6) head asn ipv4 ipv6
    ∙ ap (λ (t : List ℕ). t ++ (head_text registry r ++ (space_text registry r Asn ++ (space_text registry r Ipv4 ++ space_text registry r Ipv6)))) none
    ∙ sym (ap (λ (t : List ℕ). head_text registry r ++ t) (texts_of_spaces (record_text registry r.holders) r))
    ∙ joined (version_line registry r) (summary_of registry r Asn) (summary_of registry r Ipv4) (summary_of registry r Ipv6)
    (flat_map (record_text registry r.holders) (record_lines r))
