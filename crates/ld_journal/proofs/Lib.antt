mod CountLemmas
mod ExampleLemmas
mod FeedLemmas
