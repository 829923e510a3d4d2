-- The definitions tried on worked examples: each computes.
use Rattle.std.proofs.Common.{◌≡◌, ℕ, true, false, List, [], ◌∷◌, None, Some, Result, Ok, Err, codes, refl}
use Rattle.std.specs.Fmt.{digits}
use Rattle.wire_http.specs.Head.{PlainHead}
use Rattle.wire_http.specs.Fields.{asks_to_close, key_of, at_least_of}
use Rattle.wire_http.specs.Body.{body_length}
use Rattle.wire_http.specs.Reply.{title_of, head_text}
use Rattle.wire_http.specs.ErrorBody.{description_of, error_text}

abbrev asking : List ℕ → List (List ℕ × List ℕ) → PlainHead
asking method fields = record { method = method; target = codes "/desk"; minor = 1; fields = fields }

-- the names are compared without case
desk_post : PlainHead
desk_post = asking (codes "POST") ((codes "host", codes "r") ∷ (codes "AUTHORIZATION", codes "bearer k-local-0001") ∷ (codes "content-length", codes "33") ∷ [])

desk_body : body_length desk_post ≡ Ok 33
unfolding desk_post digits
desk_body = refl

desk_key : key_of desk_post ≡ Some (codes "k-local-0001")
unfolding desk_post digits
desk_key = refl

desk_goes_on : asks_to_close desk_post ≡ false
unfolding desk_post digits
desk_goes_on = refl

desk_asks_for_none : at_least_of desk_post ≡ Some 0
unfolding desk_post digits
desk_asks_for_none = refl

-- a line that stands twice says nothing
twice : PlainHead
twice = asking (codes "GET") ((codes "Connection", codes "close") ∷ (codes "connection", codes "close") ∷ (codes "Register-At-Least", codes "3") ∷ (codes "Register-At-Least", codes "3") ∷ [])

twice_is_none : (asks_to_close twice ≡ false) × (at_least_of twice ≡ None) × (body_length twice ≡ Ok 0)
unfolding twice digits
twice_is_none = (refl, refl, refl)

-- RFC 9112 6.3: no length, a bad one, one above the bound, and a transfer coding
lengths : List (Result ℕ ℕ)
lengths =
    body_length (asking (codes "POST") [])
    ∷ body_length (asking (codes "POST") ((codes "Content-Length", codes "+3") ∷ []))
    ∷ body_length (asking (codes "POST") ((codes "Content-Length", codes "4096") ∷ []))
    ∷ body_length (asking (codes "POST") ((codes "Content-Length", codes "4097") ∷ []))
    ∷ body_length (asking (codes "GET") ((codes "Content-Length", codes "4294967296") ∷ []))
    ∷ body_length (asking (codes "POST") ((codes "Transfer-Encoding", codes "chunked") ∷ (codes "Content-Length", codes "4097") ∷ []))
    ∷ []

lengths_are : lengths ≡ Err 411 ∷ Err 400 ∷ Ok 4096 ∷ Err 413 ∷ Err 400 ∷ Err 400 ∷ []
unfolding lengths digits
lengths_are = refl

answered : head_text (record { code = 200; json = false; length = 28; serial = Some 3; post = true; close = false })
    ≡ codes "HTTP/1.1 200 OK\r\nContent-Type: text/plain\r\nContent-Length: 28\r\nRegister-Serial: 3\r\n\r\n"
unfolding digits title_of
answered = refl

not_found : error_text 404 7 false ≡ codes "{\"description\":[\"no such object\"],\"errorCode\":404,\"rdapConformance\":[\"rdap_level_0\"],\"title\":\"Not Found\"}"
unfolding digits title_of description_of
not_found = refl
