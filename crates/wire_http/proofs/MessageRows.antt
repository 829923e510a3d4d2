-- The definition of messages tried on a worked example: a GET whose lines end in LF alone, and a POST with a body.
use Rattle.std.proofs.Common.{true, false, [], ◌∷◌, codes, inr, refl, arith}
use Rattle.std.specs.Fmt.{digits}
use Rattle.std.proofs.lemmas.List.Elements.{All-nil, All-cons}
use Rattle.std.proofs.lemmas.List.Sums.{AllPass-from_list_all}
use Rattle.httparse.specs.Grammar.{Field, IsField, RequestHead, crlf, lf, is_token_byte, is_uri_byte, is_value_byte, print_request, trim_ows}
use Rattle.wire_http.specs.Head.{ReadsHead, IsHead}
use Rattle.wire_http.specs.Messages.{PlainMessage, IsMessage, Ends, Fault, AreMessagesOf}

get_head : RequestHead
get_head = record { blank = []; method = codes "GET"; target = codes "/"; minor = 1; line_end = lf; fields = []; last = lf }

length_line : Field
length_line = record { name = codes "content-length"; raw = codes " 2"; end = crlf }

post_head : RequestHead
post_head = record { blank = []; method = codes "POST"; target = codes "/"; minor = 0; line_end = crlf; fields = length_line ∷ []; last = crlf }

get_message : PlainMessage
get_message = record { head = codes "GET / HTTP/1.1\n\n"; body = [] }

post_message : PlainMessage
post_message = record { head = codes "POST / HTTP/1.0\r\ncontent-length: 2\r\n\r\n"; body = codes "hi" }

get_is_head : IsHead (codes "GET / HTTP/1.1\n\n") get_head
unfolding get_head print_request is_token_byte lib.Utf8.encode
get_is_head = record {
  reads = (
    record {
      method = (omega arith, AllPass-from_list_all is_token_byte (codes "GET") refl);
      target = (omega arith, AllPass-from_list_all is_uri_byte (codes "/") refl);
      target_text = (codes "/", (refl, refl));
      minor = omega arith;
      fields = All-nil IsField;
    },
    refl,
  );
  short = omega arith;
  lines = omega arith;
}

get_is_message : IsMessage get_message
unfolding get_message get_head
get_is_message = (get_head, get_is_head, refl)

length_is_field : IsField length_line
unfolding length_line is_token_byte
length_is_field = record {
  name = (omega arith, AllPass-from_list_all is_token_byte (codes "content-length") refl);
  raw = AllPass-from_list_all is_value_byte (codes " 2") refl;
}

post_is_head : IsHead (codes "POST / HTTP/1.0\r\ncontent-length: 2\r\n\r\n") post_head
unfolding post_head length_line print_request is_token_byte lib.Utf8.encode
post_is_head = record {
  reads = (
    record {
      method = (omega arith, AllPass-from_list_all is_token_byte (codes "POST") refl);
      target = (omega arith, AllPass-from_list_all is_uri_byte (codes "/") refl);
      target_text = (codes "/", (refl, refl));
      minor = omega arith;
      fields = All-cons IsField length_line [] length_is_field (All-nil IsField);
    },
    refl,
  );
  short = omega arith;
  lines = omega arith;
}

post_is_message : IsMessage post_message
unfolding post_message post_head length_line trim_ows digits
post_is_message = (post_head, post_is_head, refl)

-- one behind the other, and nothing behind them
two_messages : AreMessagesOf (codes "GET / HTTP/1.1\n\nPOST / HTTP/1.0\r\ncontent-length: 2\r\n\r\nhi") true (get_message ∷ post_message ∷ []) Ends
unfolding get_message post_message
two_messages = (
  codes "POST / HTTP/1.0\r\ncontent-length: 2\r\n\r\nhi",
  record { whole = refl; message = get_is_message },
  ([], record { whole = refl; message = post_is_message }, (refl, refl)),
)

-- a POST without a length is refused before its body comes
bare_post : RequestHead
bare_post = record { blank = []; method = codes "POST"; target = codes "/"; minor = 1; line_end = lf; fields = []; last = lf }

bare_post_reads : ReadsHead (codes "POST / HTTP/1.1\n\nhi") bare_post (codes "hi")
unfolding bare_post print_request is_token_byte lib.Utf8.encode
bare_post_reads = record {
  reads = (
    record {
      method = (omega arith, AllPass-from_list_all is_token_byte (codes "POST") refl);
      target = (omega arith, AllPass-from_list_all is_uri_byte (codes "/") refl);
      target_text = (codes "/", (refl, refl));
      minor = omega arith;
      fields = All-nil IsField;
    },
    refl,
  );
  short = omega arith;
  lines = omega arith;
}

post_without_length : AreMessagesOf (codes "POST / HTTP/1.1\n\nhi") false [] (Fault 411)
unfolding bare_post
post_without_length = inr (bare_post, codes "hi", bare_post_reads, refl)
