-- How the tokenizer and the parser go about it: the plan of the code. No contract of a public call cites it.
pub mod NextToken
pub mod TokensLeft
pub mod Parsing
pub mod ParsedParts
pub mod PathAnswer
pub mod Handed
pub mod Wants
pub mod RefusedPlace
pub mod Expecting
